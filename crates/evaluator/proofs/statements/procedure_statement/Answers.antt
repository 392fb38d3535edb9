use Rattle.std.proofs.Common.{◌∙◌}
use Rattle.evaluator.proofs.statements.procedure_statement.Goals as goal

pub returns-in-Call-clause-turns : goal.returns-in-Call-clause-turns
returns-in-Call-clause-turns c p row m u same = c.begin_call.ensures.turns p m u (same ∙ rw c.in-Call.is)

pub returns-in-CallFormal-clause-turns : goal.returns-in-CallFormal-clause-turns
returns-in-CallFormal-clause-turns c p row m u same = c.begin_call-in-CallFormal.ensures.turns p m u (same ∙ rw c.in-CallFormal.is)
