use Rattle.std.proofs.Common.{◌∙◌, arith, sym}
use Rattle.evaluator.proofs.{LocatedWeighs.located_light, StepsFall.falls_so, Turning.before_it}
use Rattle.evaluator.proofs.accesses.locate_first.Goals as goal
use Rattle.evaluator.specs.Rest.{here, waiting}

pub returns-then-access-row-clause-turns : goal.returns-then-access-row-clause-turns
returns-then-access-row-clause-turns c p go e m u same =
    c.wait.ensures.turns p m u (same ∙ before_it c.args.row c.args.access c.args.target (here c.args.body.now.home c.args.line) go (waiting p c.args.body.now)
    c.if-access-row.true ∙ sym e)

pub returns-then-access-row-clause-falls : goal.returns-then-access-row-clause-falls
returns-then-access-row-clause-falls c =
    falls_so c.wait.result _ _ _ _ (λ h. omega (arith, h, located_light c.args.located, c.if-access-row.true)) c.wait.ensures.falls
