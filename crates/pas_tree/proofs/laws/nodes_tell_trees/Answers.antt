use Rattle.pas_tree.proofs.TreesTold.{text_told, trees_told}
use Rattle.pas_tree.proofs.laws.nodes_tell_trees.Goals as goal

pub returns-clause-nodes : goal.returns-clause-nodes
returns-clause-nodes c = trees_told

pub returns-clause-text : goal.returns-clause-text
returns-clause-text c = text_told
