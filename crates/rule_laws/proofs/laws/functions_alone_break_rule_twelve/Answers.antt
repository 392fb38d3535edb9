use Rattle.rule_laws.proofs.TextEnds.{text_twelve_law}
use Rattle.rule_laws.proofs.laws.functions_alone_break_rule_twelve.Goals as goal

pub returns : goal.returns
returns c = text_twelve_law
