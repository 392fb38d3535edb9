use Rattle.std.proofs.Common.{◌∙◌, sym}
use Rattle.dialog_replies.proofs.NamedCalls.{named_below}
use Rattle.made_program.proofs.answering.answer_next.Goals as goal

pub judge-requires-clause-a_call : goal.judge-requires-clause-a_call
judge-requires-clause-a_call g c =
    named_below (g.D.Debugged.subject c.args.run.now) c.args.debug.now _ c.requires.search (sym c.in-Ask.is ∙ c.state_now.ensures)
