use Rattle.dialog_replies.proofs.FitsTheRun.{saved_fits}
use Rattle.dialog_replies.proofs.resuming.resume.Goals as goal

pub resume_session-requires-clause-fits : goal.resume_session-requires-clause-fits
resume_session-requires-clause-fits g c =
    saved_fits (g.D.Debugged.subject c.args.run.now) c.args.start.now c.in-Some.session c.in-Some.is c.requires.fits
