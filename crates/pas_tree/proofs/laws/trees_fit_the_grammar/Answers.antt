use Rattle.pas_tree.proofs.TreesFit.{tree_fits}
use Rattle.pas_tree.proofs.laws.trees_fit_the_grammar.Goals as goal

pub returns : goal.returns
returns c = tree_fits
