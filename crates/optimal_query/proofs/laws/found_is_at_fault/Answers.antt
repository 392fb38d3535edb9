use Rattle.optimal_query.proofs.AtFault.{found_is_at_fault}
use Rattle.optimal_query.proofs.laws.found_is_at_fault.Goals as goal

pub returns : goal.returns
returns c = found_is_at_fault
