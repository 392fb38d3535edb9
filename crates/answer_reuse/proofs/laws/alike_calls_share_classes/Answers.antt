use Rattle.answer_reuse.proofs.ClassesAlike.{alike_share_classes}
use Rattle.answer_reuse.proofs.laws.alike_calls_share_classes.Goals as goal

pub returns : goal.returns
returns c = alike_share_classes c.alike_calls_did_the_same.ensures.same
