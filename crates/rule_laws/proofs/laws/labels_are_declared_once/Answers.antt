use Rattle.rule_laws.proofs.LabelParts.{label_part_law}
use Rattle.rule_laws.proofs.laws.labels_are_declared_once.Goals as goal

pub returns : goal.returns
returns c = label_part_law
