use Rattle.std.proofs.Common.{◌∙◌, sym}
use Rattle.dialog_replies.proofs.NamedCalls.{named_below}
use Rattle.dialog_replies.proofs.reports.report_now.Goals as goal

pub prepare_card-requires : goal.prepare_card-requires
prepare_card-requires g c =
    named_below (g.D.Debugged.subject c.args.run.now) c.args.dialog.now.debug _ c.requires.dialog.search (sym c.in-Ask.is ∙ c.state_now.ensures)

pub kept_reply-requires-clause-call : goal.kept_reply-requires-clause-call
kept_reply-requires-clause-call g c =
    named_below (g.D.Debugged.subject c.args.run.now) c.args.dialog.now.debug _ c.requires.dialog.search (sym c.in-Ask.is ∙ c.state_now.ensures)

pub prepare_trace-requires : goal.prepare_trace-requires
prepare_trace-requires g c =
    named_below (g.D.Debugged.subject c.args.run.now) c.args.dialog.now.debug _ c.requires.dialog.search (sym c.in-Found.is ∙ c.state_now.ensures)

pub returns-in_ok-kept-in-Ask-clause-prepared : goal.returns-in_ok-kept-in-Ask-clause-prepared
returns-in_ok-kept-in-Ask-clause-prepared g c = (
  named_below (g.D.Debugged.subject c.args.run.now) c.args.dialog.now.debug _ c.requires.dialog.search (sym c.in-Ask.is ∙ c.state_now.ensures),
  c.in_ok-card-in-Ask.ensures,
)

pub returns-in_ok-prepare_trace-in-Found-clause-prepared : goal.returns-in_ok-prepare_trace-in-Found-clause-prepared
returns-in_ok-prepare_trace-in-Found-clause-prepared g c = (
  named_below (g.D.Debugged.subject c.args.run.now) c.args.dialog.now.debug _ c.requires.dialog.search (sym c.in-Found.is ∙ c.state_now.ensures),
  c.in_ok-prepare_trace-in-Found.ensures,
)

pub returns-in-Narrowed-clause-prepared : goal.returns-in-Narrowed-clause-prepared
returns-in-Narrowed-clause-prepared g c =
    named_below (g.D.Debugged.subject c.args.run.now) c.args.dialog.now.debug _ c.requires.dialog.search (sym c.in-Narrowed.is ∙ c.state_now.ensures)
