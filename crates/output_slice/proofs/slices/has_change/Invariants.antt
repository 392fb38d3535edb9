use Rattle.std.proofs.Common.{◌≡◌, false, take}
use Rattle.output_slice.proofs.slices.has_change.Given as goal
use Rattle.output_slice.specs.Keys.{has_key}

abbrev pub invariant-loop-i : goal.invariant-loop-i
invariant-loop-i l = has_key l.addr (take l.i l.changes) ≡ false
