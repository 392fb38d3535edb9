use Rattle.grammar.proofs.Texts.{formed_found, found, one_tree}
use Rattle.grammar.proofs.laws.reading_is_exact.Goals as goal

pub returns-clause-found : goal.returns-clause-found
returns-clause-found c = found

pub returns-clause-formed : goal.returns-clause-formed
returns-clause-formed c = formed_found

pub returns-clause-one_tree : goal.returns-clause-one_tree
returns-clause-one_tree c = one_tree
