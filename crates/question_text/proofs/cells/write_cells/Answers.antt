use Rattle.std.proofs.Common.{◌∙◌, arith}
use Rattle.cell_names.specs.Names.{scene_in}
use Rattle.question_text.proofs.LinesInTurn.{cell_on, cells_end}
use Rattle.question_text.proofs.cells.write_cells.Goals as goal

pub cells-preserved : goal.cells-preserved
cells-preserved g c =
    let t = c.cells-test.true in let printout = g.P.Printer.printout in (
      cell_on (scene_in c.args.scene.now) c.args.frame c.cells.at _ c.cells.number c.args.to c.args.args.now c.at.result (printout c.cells.out).text
          (printout c.write_parameter_line.new.out).text _ c.at.ensures.found t c.saturating_add-at.ensures c.write_parameter_line.ensures.0
          c.cells.invariant.0,
      c.write_parameter_line.ensures.1 ∙ c.cells.invariant.1,
    )

pub returns : goal.returns
returns g c =
    let t = c.cells-test.false in (
      cells_end (scene_in c.args.scene.now) c.args.frame c.cells.at c.cells.number c.args.to c.args.args.now (g.P.Printer.printout c.cells.out).text _
          (omega (arith, t)) c.cells.invariant.0,
      c.cells.invariant.1,
    )
