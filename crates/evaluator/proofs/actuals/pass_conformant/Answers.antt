use Rattle.std.proofs.Common.{◌∙◌}
use Rattle.evaluator.proofs.actuals.pass_conformant.Goals as goal

pub returns-in-ArrayPlace-clause-turns : goal.returns-in-ArrayPlace-clause-turns
returns-in-ArrayPlace-clause-turns c m u same = c.pass_place.ensures.turns m u (same ∙ rw c.in-ArrayPlace.is)

pub returns-in-ArrayValue-clause-turns : goal.returns-in-ArrayValue-clause-turns
returns-in-ArrayValue-clause-turns c m u same = c.pass_array.ensures.turns m u (same ∙ rw c.in-ArrayValue.is)
