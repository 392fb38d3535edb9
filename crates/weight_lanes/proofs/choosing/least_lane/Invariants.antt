use Rattle.std.proofs.Common.{get_or}
use Rattle.weight_lanes.proofs.choosing.least_lane.Given as goal
use Rattle.weight_lanes.specs.Lanes.{IsLeastBelow}

abbrev pub invariant-loop-number : goal.invariant-loop-number
invariant-loop-number l = IsLeastBelow (λ lane. get_or l.fn.lanes lane 0) l.number-index l.least
