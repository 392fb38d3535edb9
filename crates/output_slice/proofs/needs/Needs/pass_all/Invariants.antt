use Rattle.std.proofs.Common.{◌≤◌, slice_range}
use Rattle.output_slice.proofs.needs.Needs.pass_all.Given as goal
use Rattle.output_slice.specs.{Backward.Wanted, Backward.before_touches, Needed.AreWanted}

abbrev pub invariant-loop-i : goal.invariant-loop-i
invariant-loop-i l = record {
  least : l.from ≤ l.i;
  passed : (w : Wanted) → AreWanted l.initial.self w → AreWanted l.self (before_touches (slice_range l.log l.i l.to) w);
}
