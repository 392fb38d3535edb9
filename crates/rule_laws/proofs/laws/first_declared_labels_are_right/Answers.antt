use Rattle.rule_laws.proofs.TextBlockRights.{text_right_law}
use Rattle.rule_laws.proofs.laws.first_declared_labels_are_right.Goals as goal

pub returns : goal.returns
returns c = text_right_law
