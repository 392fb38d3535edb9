use Rattle.rule_laws.proofs.SplitNames.{text_name_law}
use Rattle.rule_laws.proofs.laws.names_of_a_text_differ.Goals as goal

pub returns : goal.returns
returns c = text_name_law
