use Rattle.std.proofs.Common.{◌∙◌}
use Rattle.cell_names.specs.Names.{scene_in}
use Rattle.question_text.proofs.LinesInTurn.{line_on}
use Rattle.question_text.proofs.cells.write_reads.Goals as goal
use Rattle.question_text.specs.Cells.{seen_line}

pub reads-preserved : goal.reads-preserved
reads-preserved g c =
    let printout = g.P.Printer.printout in (
      line_on (seen_line (scene_in c.args.scene.now)) c.args.reads.now c.reads.i c.at-address.result (printout c.reads.out).text
          (printout c.write_seen_line.new.out).text _ c.at-address.ensures.found c.write_seen_line.ensures.0 c.reads.invariant.0,
      c.write_seen_line.ensures.1 ∙ c.reads.invariant.1,
    )
