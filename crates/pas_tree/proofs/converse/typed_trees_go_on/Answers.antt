use Rattle.pas_tree.proofs.TreesGoOn.{hopeless_for_trees, too_deep_for_trees, trees_go_on}
use Rattle.pas_tree.proofs.converse.typed_trees_go_on.Goals as goal

pub returns-clause-goes : goal.returns-clause-goes
returns-clause-goes c = trees_go_on

pub returns-clause-hopeless : goal.returns-clause-hopeless
returns-clause-hopeless c = hopeless_for_trees

pub returns-clause-deep : goal.returns-clause-deep
returns-clause-deep c = too_deep_for_trees
