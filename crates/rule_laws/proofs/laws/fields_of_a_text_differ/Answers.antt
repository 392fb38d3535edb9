use Rattle.rule_laws.proofs.TextFields.{text_field_law}
use Rattle.rule_laws.proofs.laws.fields_of_a_text_differ.Goals as goal

pub returns : goal.returns
returns c = text_field_law
