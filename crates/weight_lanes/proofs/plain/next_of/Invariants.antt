use Rattle.std.proofs.Common.{◌≡◌, get_or}
use Rattle.weight_lanes.proofs.plain.next_of.Given as goal
use Rattle.weight_lanes.specs.Lanes.{NoneIn}

abbrev pub invariant-loop-place : goal.invariant-loop-place
invariant-loop-place l = NoneIn (λ place. get_or l.column place 0 ≡ l.value) l.from l.place
