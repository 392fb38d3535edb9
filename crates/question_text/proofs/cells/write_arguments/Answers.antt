use Rattle.std.proofs.Common.{◌∙◌, arith}
use Rattle.cell_names.specs.Names.{scene_in}
use Rattle.question_text.proofs.LinesInTurn.{parameter_on, parameters_end}
use Rattle.question_text.proofs.cells.write_arguments.Goals as goal

pub places-preserved : goal.places-preserved
places-preserved g c =
    let t = c.places-test.true in let m = c.min-place-end.ensures in
    let printout = g.P.Printer.printout in (
      parameter_on (scene_in c.args.scene.now) c.args.frame c.args.routine c.places.place c.args.routine.parameters c.args.args.now c.at.result
          (printout c.places.out).text (printout c.write_argument.new.out).text _ c.at.ensures.found (omega (arith, t, m)) c.write_argument.ensures.0
          c.places.invariant.0,
      c.write_argument.ensures.1 ∙ c.places.invariant.1,
    )

pub returns : goal.returns
returns g c =
    let t = c.places-test.false in let m = c.min-place-end.ensures in let e = c.len.ensures in (
      parameters_end (scene_in c.args.scene.now) c.args.frame c.args.routine c.places.place c.args.routine.parameters c.args.args.now
          (g.P.Printer.printout c.places.out).text _ (omega (arith, t, m, e)) c.places.invariant.0,
      c.places.invariant.1,
    )
