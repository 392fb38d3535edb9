use Rattle.std.proofs.Common.{◌∙◌}
use Rattle.evaluator.proofs.statements.turn_of.Goals as goal

pub returns-in-While-clause-turns : goal.returns-in-While-clause-turns
returns-in-While-clause-turns c p m u same = c.by_value.ensures.turns p m u (same ∙ rw c.in-While.is)

pub returns-in-Repeat-clause-turns : goal.returns-in-Repeat-clause-turns
returns-in-Repeat-clause-turns c p m u same = c.wait.ensures.turns p m u (same ∙ rw c.in-Repeat.is)
