use Rattle.rule_laws.proofs.NameLaw.{parameter_law}
use Rattle.rule_laws.proofs.laws.parameters_are_defined_once.Goals as goal

pub returns : goal.returns
returns c = parameter_law
