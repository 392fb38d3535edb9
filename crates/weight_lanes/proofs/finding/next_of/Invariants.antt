use Rattle.std.proofs.Common.{◌-◌, ◌≡◌, ◌≤◌, get_or, length}
use Rattle.weight_lanes.proofs.finding.next_of.Given as goal
use Rattle.weight_lanes.specs.Lanes.{NoneIn}

abbrev pub invariant-search : goal.invariant-search
invariant-search l = record {
  low : l.from ≤ l.at;
  high : l.at ≤ length l.column;
  none : NoneIn (λ place. get_or l.column place 0 ≡ l.value) l.from l.at;
}

abbrev pub decreases-search : goal.decreases-search
decreases-search l = length l.column - l.at
