use Rattle.optimal_query.proofs.AtFault.{nothing_is_wrong}
use Rattle.optimal_query.proofs.laws.nothing_wrong_is_nothing.Goals as goal

pub returns : goal.returns
returns c = nothing_is_wrong
