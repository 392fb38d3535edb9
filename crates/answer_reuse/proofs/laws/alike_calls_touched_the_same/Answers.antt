use Rattle.answer_reuse.proofs.AlikeTouches.{touched_the_same}
use Rattle.answer_reuse.proofs.laws.alike_calls_touched_the_same.Goals as goal

pub returns : goal.returns
returns c = touched_the_same c.calls_carry_to_themselves.ensures
