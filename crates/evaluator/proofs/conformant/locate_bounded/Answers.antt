use Rattle.std.proofs.Common.{◌∙◌, arith}
use Rattle.evaluator.proofs.{ConformantTrees.bounded_before_it, StepsFall.falls_so}
use Rattle.evaluator.proofs.conformant.locate_bounded.Goals as goal
use Rattle.evaluator.specs.Rest.{conformant_indexed, here, waiting}

pub returns-then-access-row-clause-turns : goal.returns-then-access-row-clause-turns
returns-then-access-row-clause-turns c p m u same =
    let a = c.args.body.now in
    c.wait.ensures.turns p m u (same ∙ bounded_before_it c.args.row c.args.access c.args.target (here a.home c.args.line)
    (conformant_indexed p a.home c.args.index c.args.array c.args.of c.args.line) (waiting p a) c.if-access-row.true)

pub returns-then-access-row-clause-falls : goal.returns-then-access-row-clause-falls
returns-then-access-row-clause-falls c = falls_so c.wait.result _ _ _ _ (λ h. omega (arith, h, c.if-access-row.true)) c.wait.ensures.falls
