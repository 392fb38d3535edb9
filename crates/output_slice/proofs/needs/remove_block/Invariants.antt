use Rattle.std.proofs.Common.{if◌then◌else◌, ◌&&◌, ◌<◌, ◌≡◌, ℕ, false, nat_le, nat_lt}
use Rattle.output_slice.proofs.needs.remove_block.Given as goal
use Rattle.output_slice.specs.CellSets.{has_cell}

abbrev pub invariant-loop-addr : goal.invariant-loop-addr
invariant-loop-addr l = (a : ℕ) → a < 1048576 → has_cell l.cells a ≡ (if nat_le l.first a && nat_lt a l.addr then false else has_cell l.initial.cells a)
