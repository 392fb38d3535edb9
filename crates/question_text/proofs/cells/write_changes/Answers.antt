use Rattle.std.proofs.Common.{◌∙◌}
use Rattle.cell_names.specs.Names.{scene_in}
use Rattle.question_text.proofs.LinesInTurn.{line_on}
use Rattle.question_text.proofs.cells.write_changes.Goals as goal
use Rattle.question_text.specs.Cells.{change_line}

pub changes-preserved : goal.changes-preserved
changes-preserved g c =
    let printout = g.P.Printer.printout in (
      line_on (change_line (scene_in c.args.scene.now)) c.args.changes.now c.changes.i c.at-address.result (printout c.changes.out).text
          (printout c.write_change_line.new.out).text _ c.at-address.ensures.found c.write_change_line.ensures.0 c.changes.invariant.0,
      c.write_change_line.ensures.1 ∙ c.changes.invariant.1,
    )
