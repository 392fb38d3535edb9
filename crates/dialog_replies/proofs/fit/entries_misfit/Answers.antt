use Rattle.std.proofs.Common.{◌∙◌, sym}
use Rattle.dialog_replies.proofs.MisfitsInTurn.{found_here, passed_here}
use Rattle.dialog_replies.proofs.fit.entries_misfit.Goals as goal

pub returns-in-Some : goal.returns-in-Some
returns-in-Some g c =
    let s = g.D.Debugged.subject c.args.run.now in
    sym (found_here s c.args.entries.now c.places.place c.entry_at-entry.result c.in-Some.misfit c.entry_at-entry.ensures c.in-Some.ensures)
    ∙ c.places.invariant

pub places-preserved : goal.places-preserved
places-preserved g c =
    let s = g.D.Debugged.subject c.args.run.now in
    sym (passed_here s c.args.entries.now c.places.place c.entry_at-entry.result c.entry_at-entry.ensures c.in-None.ensures) ∙ c.places.invariant
