use Rattle.std.proofs.Common.{◌-◌, ◌≤◌, length}
use Rattle.weight_lanes.proofs.finding.next_leaving_fewer.Given as goal
use Rattle.weight_lanes.specs.{Lanes.NoneIn, Places.LeavesFewer}

abbrev pub invariant-search : goal.invariant-search
invariant-search l = record {
  low : l.from ≤ l.at;
  high : l.at ≤ length l.weights;
  none : NoneIn (LeavesFewer l.weights l.askable l.total l.bound) l.from l.at;
}

abbrev pub decreases-search : goal.decreases-search
decreases-search l = length l.weights - l.at
