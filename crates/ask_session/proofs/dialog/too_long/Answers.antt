use Rattle.std.proofs.Common.{◌++◌, ◌∙◌, ℕ, List, ap, codes}
use Rattle.ask_session.proofs.LineIsAnswered.{breaks_off, too_long_so}
use Rattle.ask_session.proofs.dialog.too_long.Goals as goal

pub returns-in-Ok-clause-answers : goal.returns-in-Ok-clause-answers
returns-in-Ok-clause-answers g c = λ start asked long.
    too_long_so (g.D.Debugged.reads c.args.run.now) (g.D.Debugged.subject c.args.run.now) start asked c.append.new.self long
    (c.in-Ok.ensures.ok ∙ ap (λ (bytes : List ℕ). bytes ++ codes "line too long\n") c.new-bytes.ensures)

pub returns-in-Err-clause-answers : goal.returns-in-Err-clause-answers
returns-in-Err-clause-answers g c = λ start asked long.
    breaks_off (g.D.Debugged.reads c.args.run.now) (g.D.Debugged.subject c.args.run.now) start asked asked.moment.held.said
