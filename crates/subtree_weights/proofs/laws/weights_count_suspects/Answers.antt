use Rattle.subtree_weights.proofs.SumsOfChildren.{all_are_weighed, suspects_are_weighed, weights_are_within}
use Rattle.subtree_weights.proofs.laws.weights_count_suspects.Goals as goal

pub returns-clause-all : goal.returns-clause-all
returns-clause-all c = λ parent last depth marks numbered rooted some. all_are_weighed parent last marks numbered depth rooted some

pub returns-clause-each : goal.returns-clause-each
returns-clause-each c = λ parent last marks top suspect numbered inside holds. suspects_are_weighed parent last marks numbered top suspect inside holds

pub returns-clause-within : goal.returns-clause-within
returns-clause-within c = λ parent last marks top suspect numbered inside holds. weights_are_within parent last marks numbered top suspect inside holds
