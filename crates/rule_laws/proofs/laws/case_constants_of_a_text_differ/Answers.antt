use Rattle.rule_laws.proofs.TextCases.{text_case_law}
use Rattle.rule_laws.proofs.laws.case_constants_of_a_text_differ.Goals as goal

pub returns : goal.returns
returns c = text_case_law
