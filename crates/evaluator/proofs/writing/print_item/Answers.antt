use Rattle.std.proofs.Common.{◌∙◌}
use Rattle.evaluator.proofs.writing.print_item.Goals as goal

pub returns-in-Written-clause-turns : goal.returns-in-Written-clause-turns
returns-in-Written-clause-turns c p m u same = c.evaluate.ensures.turns p m u (same ∙ rw c.in-Written.is)

pub returns-in-WrittenWide-clause-turns : goal.returns-in-WrittenWide-clause-turns
returns-in-WrittenWide-clause-turns c p m u same = c.evaluate-in-WrittenWide.ensures.turns p m u (same ∙ rw c.in-WrittenWide.is)
