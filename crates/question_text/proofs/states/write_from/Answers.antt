use Rattle.std.proofs.Common.{◌++◌, ◌∙◌, ap, append-nil, is_some, refl, sym}
use Rattle.cell_names.specs.Names.{scene_in}
use Rattle.question_text.proofs.CellsInTurn.{unnamed_here}
use Rattle.question_text.proofs.states.write_from.Goals as goal
use Rattle.question_text.specs.States.{line_by, sides_at}

pub returns-in-Unnamed-clause-line : goal.returns-in-Unnamed-clause-line
returns-in-Unnamed-clause-line g c =
    let s = scene_in c.args.scene.now in
    let walked = rw c.in-Unnamed.is at c.walk-walked.ensures in
    let out = (g.P.Printer.printout c.args.out.now).text in (
      sym (append-nil out) ∙ ap (λ o. out ++ line_by s (sides_at c.args.call.now c.args.address) o)
          (sym (unnamed_here s c.args.call.now c.args.name.now c.args.address c.in-Unnamed.more walked)),
      refl,
    )

pub returns-in-Unnamed-clause-named : goal.returns-in-Unnamed-clause-named
returns-in-Unnamed-clause-named g c =
    let walked = rw c.in-Unnamed.is at c.walk-walked.ensures in
    ap is_some (sym (unnamed_here (scene_in c.args.scene.now) c.args.call.now c.args.name.now c.args.address c.in-Unnamed.more walked))
