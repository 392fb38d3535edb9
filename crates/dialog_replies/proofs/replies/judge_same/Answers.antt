use Rattle.std.proofs.Common.{◌∙◌, sym}
use Rattle.dialog_replies.proofs.NamedCalls.{named_below}
use Rattle.dialog_replies.proofs.replies.judge_same.Goals as goal

pub judge_as_kept-requires-clause-call : goal.judge_as_kept-requires-clause-call
judge_as_kept-requires-clause-call g c =
    named_below (g.D.Debugged.subject c.args.run.now) c.args.dialog.now.debug _ c.requires.dialog.search (sym c.in-Ask.is ∙ c.state_now.ensures)
