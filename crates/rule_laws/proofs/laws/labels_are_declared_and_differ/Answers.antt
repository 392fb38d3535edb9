use Rattle.rule_laws.proofs.LabelLaw.{label_law}
use Rattle.rule_laws.proofs.laws.labels_are_declared_and_differ.Goals as goal

pub returns : goal.returns
returns c = label_law
