use Rattle.std.proofs.Common.{◌∙◌}
use Rattle.evaluator.proofs.statements.conditional.Goals as goal

pub returns-in-If-clause-turns : goal.returns-in-If-clause-turns
returns-in-If-clause-turns c p row m u same = c.by_value.ensures.turns p m u (same ∙ rw c.in-If.is)

pub returns-in-IfElse-clause-turns : goal.returns-in-IfElse-clause-turns
returns-in-IfElse-clause-turns c p row m u same = c.by_value-in-IfElse.ensures.turns p m u (same ∙ rw c.in-IfElse.is)

pub returns-in-Case-clause-turns : goal.returns-in-Case-clause-turns
returns-in-Case-clause-turns c p row m u same = c.by_value-in-Case.ensures.turns p m u (same ∙ rw c.in-Case.is)
