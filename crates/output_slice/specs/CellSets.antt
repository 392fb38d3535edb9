-- Which addresses a set has.
use Rattle.std.specs.Prelude.{◌==◌, ℕ, Bool, slice_index}
use Rattle.output_slice.specs.declared.cell_set.CellSet.{CellSet}

abbrev pub has_cell : CellSet → ℕ → Bool
has_cell set a = slice_index set.stamps.items a == set.stamp
