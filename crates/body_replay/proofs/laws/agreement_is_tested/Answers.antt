use Rattle.body_replay.proofs.AgreementIsTested.{is_tested}
use Rattle.body_replay.proofs.laws.agreement_is_tested.Goals as goal

pub returns : goal.returns
returns c = is_tested
