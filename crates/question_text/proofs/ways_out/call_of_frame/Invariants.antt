use Rattle.std.proofs.Common.{◌≡◌, length}
use Rattle.question_text.proofs.FramesOutward.{from_there}
use Rattle.question_text.proofs.ways_out.call_of_frame.Given as goal
use Rattle.question_text.specs.Frames.{call_of_frame}

abbrev pub invariant-calls : goal.invariant-calls
invariant-calls l = call_of_frame l.calls.calls (length l.calls.calls) l.fn.from l.base ≡ from_there l.calls.calls l.counter l.at l.base
