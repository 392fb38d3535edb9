use Rattle.std.proofs.Common.{◌-◌, ◌≤◌, length}
use Rattle.weight_lanes.proofs.LeastBelowBound.{HasLeast}
use Rattle.weight_lanes.proofs.choosing.least_number.Given as goal
use Rattle.weight_lanes.specs.Lanes.{lane_number}

abbrev pub invariant-search : goal.invariant-search
invariant-search l = record {
  high : l.seen ≤ length l.weights;
  least : HasLeast (lane_number l.weights l.askable l.total) l.seen l.lanes;
}

abbrev pub decreases-search : goal.decreases-search
decreases-search l = length l.weights - l.seen
