use Rattle.std.proofs.Common.{◌∙◌}
use Rattle.evaluator.proofs.expressions.designator.Goals as goal

pub returns-in-Apply-clause-turns : goal.returns-in-Apply-clause-turns
returns-in-Apply-clause-turns c p m u same = c.begin_call.ensures.turns p m u (same ∙ rw c.in-Apply.is)

pub returns-in-ApplyFormal-clause-turns : goal.returns-in-ApplyFormal-clause-turns
returns-in-ApplyFormal-clause-turns c p m u same = c.begin_call-in-ApplyFormal.ensures.turns p m u (same ∙ rw c.in-ApplyFormal.is)
