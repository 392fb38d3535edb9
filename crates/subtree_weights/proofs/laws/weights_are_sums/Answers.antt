use Rattle.std.proofs.Common.{arith}
use Rattle.subtree_weights.proofs.SumsOfChildren.{all_sums, sums_are_weights, weights_are_sums}
use Rattle.subtree_weights.proofs.laws.weights_are_sums.Goals as goal

pub returns-clause-sums : goal.returns-clause-sums
returns-clause-sums c = λ parent last marks numbered. weights_are_sums parent last marks numbered

pub returns-clause-only : goal.returns-clause-only
returns-clause-only c = λ parent last marks weight under numbered sums call inside.
    sums_are_weights parent last marks weight under 0 numbered (all_sums parent marks weight under sums) call (omega arith) inside
