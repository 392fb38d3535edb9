use Rattle.std.proofs.Common.{◌∙◌}
use Rattle.evaluator.proofs.reading.after_scan.Goals as goal

pub returns-in-Further-clause-turns : goal.returns-in-Further-clause-turns
returns-in-Further-clause-turns c p m u same = c.go.ensures.turns p m u (same ∙ rw c.in-Further.is)

pub returns-in-Whole-clause-turns : goal.returns-in-Whole-clause-turns
returns-in-Whole-clause-turns c p m u same = c.go-in-Whole.ensures.turns p m u (same ∙ rw c.in-Whole.is)
