use Rattle.rule_laws.proofs.PartLaw.{part_law}
use Rattle.rule_laws.proofs.laws.forward_headings_are_completed.Goals as goal

pub returns : goal.returns
returns c = part_law
