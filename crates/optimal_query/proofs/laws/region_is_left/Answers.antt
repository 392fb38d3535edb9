use Rattle.optimal_query.proofs.AtFault.{region_is_left}
use Rattle.optimal_query.proofs.laws.region_is_left.Goals as goal

pub returns : goal.returns
returns c = region_is_left
