use Rattle.rule_laws.proofs.CaseLaw.{case_law}
use Rattle.rule_laws.proofs.laws.case_constants_differ.Goals as goal

pub returns : goal.returns
returns c = case_law
