use Rattle.grammar.proofs.{Deepest.deep_shaped, Formed.formed_not_deep, Formed.formed_or_deep}
use Rattle.grammar.proofs.refusals.nesting_is_depth.Goals as goal

pub returns-clause-formed : goal.returns-clause-formed
returns-clause-formed c = formed_not_deep

pub returns-clause-deep : goal.returns-clause-deep
returns-clause-deep c = formed_or_deep

pub returns-clause-shaped : goal.returns-clause-shaped
returns-clause-shaped c = λ t g n x f r. deep_shaped t n g x f r
