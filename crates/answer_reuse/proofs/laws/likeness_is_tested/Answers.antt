use Rattle.answer_reuse.proofs.LikenessTested.{is_tested}
use Rattle.answer_reuse.proofs.laws.likeness_is_tested.Goals as goal

pub returns : goal.returns
returns c = is_tested
