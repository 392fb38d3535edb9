use Rattle.std.proofs.Common.{◌∙◌}
use Rattle.evaluator.proofs.statements.repetitive.Goals as goal

pub returns-in-Repeat-clause-turns : goal.returns-in-Repeat-clause-turns
returns-in-Repeat-clause-turns c m u same = c.go.ensures.turns c.args.program.now m u (same ∙ rw c.in-Repeat.is)

pub returns-in-While-clause-turns : goal.returns-in-While-clause-turns
returns-in-While-clause-turns c m u same = c.go-in-While.ensures.turns c.args.program.now m u (same ∙ rw c.in-While.is)

pub returns-in-For-clause-turns : goal.returns-in-For-clause-turns
returns-in-For-clause-turns c m u same = c.begin_for.ensures.turns m u (same ∙ rw c.in-For.is)
