use Rattle.std.proofs.Common.{◌≢◌, get_or, length}
use Rattle.weight_lanes.proofs.plain.last_set.Given as goal
use Rattle.weight_lanes.specs.Lanes.{NoneIn}

abbrev pub invariant-loop-place : goal.invariant-loop-place
invariant-loop-place l = NoneIn (λ place. get_or l.flags place 0 ≢ 0) l.place (length l.flags)
