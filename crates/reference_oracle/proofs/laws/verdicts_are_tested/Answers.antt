use Rattle.reference_oracle.proofs.VerdictsTested.{is_tested}
use Rattle.reference_oracle.proofs.laws.verdicts_are_tested.Goals as goal

pub returns : goal.returns
returns c = is_tested
