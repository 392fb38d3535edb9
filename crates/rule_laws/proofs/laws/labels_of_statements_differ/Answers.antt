use Rattle.rule_laws.proofs.TextLabels.{text_label_law}
use Rattle.rule_laws.proofs.laws.labels_of_statements_differ.Goals as goal

pub returns : goal.returns
returns c = text_label_law
