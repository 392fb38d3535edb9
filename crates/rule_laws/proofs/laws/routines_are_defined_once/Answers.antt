use Rattle.rule_laws.proofs.SecondHeadings.{second_law}
use Rattle.rule_laws.proofs.laws.routines_are_defined_once.Goals as goal

pub returns : goal.returns
returns c = second_law
