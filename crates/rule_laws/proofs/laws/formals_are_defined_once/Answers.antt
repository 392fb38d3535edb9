use Rattle.rule_laws.proofs.NameLaw.{formal_law}
use Rattle.rule_laws.proofs.laws.formals_are_defined_once.Goals as goal

pub returns : goal.returns
returns c = formal_law
