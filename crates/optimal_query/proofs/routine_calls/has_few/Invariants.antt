use Rattle.std.proofs.Common.{◌-◌, ◌≡◌, ◌≤◌, length}
use Rattle.call_tree.specs.Recording.{routines_of}
use Rattle.optimal_query.proofs.routine_calls.has_few.Given as goal
use Rattle.optimal_query.specs.Changed.{ways_up}

abbrev pub invariant-calls : goal.invariant-calls
invariant-calls l = record {
  counted : l.counted ≡ ways_up l.depths (routines_of l.calls.calls) l.routine l.from;
  few : l.counted ≤ l.most;
  within : l.from ≤ length (routines_of l.calls.calls);
}

abbrev pub decreases-calls : goal.decreases-calls
decreases-calls l = length (routines_of l.calls.calls) - l.from
