use Rattle.std.proofs.Common.{◌∙◌, sym}
use Rattle.core_program.specs.Tree.{Scalar}
use Rattle.evaluator.proofs.sets.give_set.Goals as goal

pub returns-clause-turns : goal.returns-clause-turns
returns-clause-turns c p m u same =
    let s = c.take_value-set.ensures in
    c.go.ensures.turns p m u (same ∙ sym (λ i. s.waits p i (Scalar (s.result i))))
