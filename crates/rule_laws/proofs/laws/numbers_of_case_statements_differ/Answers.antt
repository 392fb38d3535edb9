use Rattle.rule_laws.proofs.TextNumbers.{text_number_law}
use Rattle.rule_laws.proofs.laws.numbers_of_case_statements_differ.Goals as goal

pub returns : goal.returns
returns c = text_number_law
