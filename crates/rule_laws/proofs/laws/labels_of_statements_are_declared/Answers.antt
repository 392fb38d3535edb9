use Rattle.rule_laws.proofs.TextChains.{text_declared_law}
use Rattle.rule_laws.proofs.laws.labels_of_statements_are_declared.Goals as goal

pub returns : goal.returns
returns c = text_declared_law
