use Rattle.optimal_query.proofs.AtFault.{buggy_is_left, found_is_buggy}
use Rattle.optimal_query.proofs.laws.buggy_is_left.Goals as goal

pub returns : goal.returns
returns c = record { among_those_left = buggy_is_left; found = found_is_buggy }
