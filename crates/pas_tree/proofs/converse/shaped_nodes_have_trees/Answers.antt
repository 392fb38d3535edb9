use Rattle.pas_tree.proofs.TreesCovered.{grammatical_have_trees, shaped_have_trees}
use Rattle.pas_tree.proofs.converse.shaped_nodes_have_trees.Goals as goal

pub returns-clause-grammatical : goal.returns-clause-grammatical
returns-clause-grammatical c = grammatical_have_trees

pub returns-clause-shaped : goal.returns-clause-shaped
returns-clause-shaped c = shaped_have_trees
