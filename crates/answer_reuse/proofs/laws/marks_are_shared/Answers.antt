use Rattle.answer_reuse.proofs.MarksShared.{marks_are_shared}
use Rattle.answer_reuse.proofs.laws.marks_are_shared.Goals as goal

pub returns : goal.returns
returns c = marks_are_shared
