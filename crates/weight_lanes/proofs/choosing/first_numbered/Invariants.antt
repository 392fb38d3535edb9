use Rattle.std.proofs.Common.{◌-◌, ◌≡◌, ◌≤◌, length}
use Rattle.weight_lanes.proofs.choosing.first_numbered.Given as goal
use Rattle.weight_lanes.specs.Lanes.{NoneIn, lane_number}

abbrev pub invariant-search : goal.invariant-search
invariant-search l = record {
  high : l.at ≤ length l.weights;
  none : NoneIn (λ place. lane_number l.weights l.askable l.total place ≡ l.sought) 0 l.at;
}

abbrev pub decreases-search : goal.decreases-search
decreases-search l = length l.weights - l.at
