use Rattle.std.proofs.Common.{◌∙◌, sym}
use Rattle.dialog_replies.proofs.FitsTheRun.{entries_named}
use Rattle.dialog_replies.proofs.resuming.resume_session.Goals as goal

pub resume_with-requires-clause-named : goal.resume_with-requires-clause-named
resume_with-requires-clause-named g c =
    let s = g.D.Debugged.subject c.args.run.now in
    rw c.as_slice.ensures (entries_named s c.args.start.now c.args.session.now (sym c.has_replies_alone.ensures ∙ c.if-has_replies_alone.false) c.requires.fits)
