use Rattle.std.proofs.Common.{◌*◌, ◌-◌, ◌≡◌, ◌≤◌, slice_range, sum_by}
use Rattle.output_slice.proofs.slices.touches_of_all.Given as goal
use Rattle.output_slice.specs.Touches.{touches_of}

abbrev pub invariant-loop-number : goal.invariant-loop-number
invariant-loop-number l = record {
  sum : l.touches ≡ sum_by touches_of (slice_range l.run.calls.calls l.call l.number);
  most : l.touches ≤ 4294967295 * (l.number - l.call);
}
