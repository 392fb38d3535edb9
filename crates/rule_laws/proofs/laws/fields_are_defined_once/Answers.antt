use Rattle.rule_laws.proofs.NameLaw.{field_law}
use Rattle.rule_laws.proofs.laws.fields_are_defined_once.Goals as goal

pub returns : goal.returns
returns c = field_law
