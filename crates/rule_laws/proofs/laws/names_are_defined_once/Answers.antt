use Rattle.rule_laws.proofs.NameLaw.{name_law}
use Rattle.rule_laws.proofs.laws.names_are_defined_once.Goals as goal

pub returns : goal.returns
returns c = name_law
