use Rattle.std.proofs.Common.{if◌then◌else◌, ◌<◌, ◌≡◌, ℕ, false, take}
use Rattle.output_slice.proofs.needs.remove_changed.Given as goal
use Rattle.output_slice.specs.{CellSets.has_cell, Keys.has_key}

abbrev pub invariant-loop-i : goal.invariant-loop-i
invariant-loop-i l = (a : ℕ) → a < 1048576 → has_cell l.cells a ≡ (if has_key a (take l.i l.changes) then false else has_cell l.initial.cells a)
