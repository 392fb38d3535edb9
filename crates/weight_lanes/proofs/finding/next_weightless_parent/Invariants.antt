use Rattle.std.proofs.Common.{◌-◌, ◌≤◌, length}
use Rattle.weight_lanes.proofs.finding.next_weightless_parent.Given as goal
use Rattle.weight_lanes.specs.{Lanes.NoneIn, Places.IsWeightlessParent}

abbrev pub invariant-search : goal.invariant-search
invariant-search l = record {
  low : l.from ≤ l.at;
  high : l.at ≤ length l.weights;
  none : NoneIn (IsWeightlessParent l.weights l.last) l.from l.at;
}

abbrev pub decreases-search : goal.decreases-search
decreases-search l = length l.weights - l.at
