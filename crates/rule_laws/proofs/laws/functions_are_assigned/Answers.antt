use Rattle.rule_laws.proofs.ResultLaw.{result_law}
use Rattle.rule_laws.proofs.laws.functions_are_assigned.Goals as goal

pub returns : goal.returns
returns c = result_law
