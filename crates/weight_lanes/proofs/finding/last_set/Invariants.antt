use Rattle.std.proofs.Common.{◌≢◌, ◌≤◌, get_or, length}
use Rattle.weight_lanes.proofs.finding.last_set.Given as goal
use Rattle.weight_lanes.specs.Lanes.{NoneIn}

abbrev pub invariant-search : goal.invariant-search
invariant-search l = record {
  high : l.end ≤ length l.flags;
  none : NoneIn (λ place. get_or l.flags place 0 ≢ 0) l.end (length l.flags);
}

abbrev pub decreases-search : goal.decreases-search
decreases-search l = l.end
