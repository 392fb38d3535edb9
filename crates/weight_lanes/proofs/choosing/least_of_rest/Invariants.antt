use Rattle.weight_lanes.proofs.choosing.least_of_rest.Given as goal
use Rattle.weight_lanes.specs.Lanes.{IsLeastBelow, lane_number}

abbrev pub invariant-loop-place : goal.invariant-loop-place
invariant-loop-place l = IsLeastBelow (lane_number l.weights l.askable l.total) l.place l.least
