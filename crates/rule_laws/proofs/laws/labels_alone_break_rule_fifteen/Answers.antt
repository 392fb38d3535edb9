use Rattle.rule_laws.proofs.TextEnds.{text_fifteen_law}
use Rattle.rule_laws.proofs.laws.labels_alone_break_rule_fifteen.Goals as goal

pub returns : goal.returns
returns c = text_fifteen_law
