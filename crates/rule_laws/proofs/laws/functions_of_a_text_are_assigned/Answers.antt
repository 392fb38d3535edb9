use Rattle.rule_laws.proofs.TextResults.{text_result_law}
use Rattle.rule_laws.proofs.laws.functions_of_a_text_are_assigned.Goals as goal

pub returns : goal.returns
returns c = text_result_law
