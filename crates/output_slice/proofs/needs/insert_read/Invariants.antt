use Rattle.std.proofs.Common.{if◌then◌else◌, ◌<◌, ◌≡◌, ℕ, take, true}
use Rattle.output_slice.proofs.needs.insert_read.Given as goal
use Rattle.output_slice.specs.{CellSets.has_cell, Keys.has_key}

abbrev pub invariant-loop-i : goal.invariant-loop-i
invariant-loop-i l = (a : ℕ) → a < 1048576 → has_cell l.cells a ≡ (if has_key a (take l.i l.reads) then true else has_cell l.initial.cells a)
