use Rattle.std.proofs.Common.{◌-◌, ◌<◌, ◌≤◌, ℕ, length, slice_index_or}
use Rattle.cell_names.proofs.places.are_rising.Given as goal
use Rattle.cell_names.specs.declared.places.PlacedPart.{PlacedPart}

abbrev pub decreases-parts : goal.decreases-parts
decreases-parts l = length l.parts - l.at

abbrev pub invariant-parts : goal.invariant-parts
invariant-parts l = record {
  some : 1 ≤ l.at;
  so_far : (i j : ℕ) (d : PlacedPart) → i < j → j < l.at → (slice_index_or l.parts i d).place < (slice_index_or l.parts j d).place;
}
