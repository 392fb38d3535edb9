use Rattle.std.proofs.Common.{◌++◌, ◌≡◌, Some, length, reverse}
use Rattle.question_text.proofs.opened.frames_outward.Given as goal
use Rattle.question_text.specs.Frames.{opened_from}

abbrev pub decreases-rows : goal.decreases-rows
decreases-rows l = l.outward.most

abbrev pub invariant-rows : goal.invariant-rows
invariant-rows l =
    opened_from l.calls.calls l.outward.most l.outward.at ++ reverse l.frames.items ≡ opened_from l.calls.calls (length l.calls.calls) (Some l.call)
