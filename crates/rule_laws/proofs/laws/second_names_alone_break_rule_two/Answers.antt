use Rattle.rule_laws.proofs.TextTwos.{text_two_law}
use Rattle.rule_laws.proofs.laws.second_names_alone_break_rule_two.Goals as goal

pub returns : goal.returns
returns c = text_two_law
