use Rattle.std.proofs.Common.{◌∙◌}
use Rattle.evaluator.proofs.sets.gather_item.Goals as goal

pub returns-in-Member-clause-turns : goal.returns-in-Member-clause-turns
returns-in-Member-clause-turns c p m u same = c.wait.ensures.turns p m u (same ∙ rw c.in-Member.is)

pub returns-in-Members-clause-turns : goal.returns-in-Members-clause-turns
returns-in-Members-clause-turns c p m u same = c.wait-in-Members.ensures.turns p m u (same ∙ rw c.in-Members.is)
