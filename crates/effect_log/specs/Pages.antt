-- The cell of an address.
use Rattle.std.specs.Prelude.{◌%◌, ◌/◌, ℕ, None, slice_index_or}
use Rattle.effect_log.specs.{Paging.cell_in, declared.cells.Cell.Cell, declared.cells.Pages.Pages}

abbrev pub cell_at : Pages → ℕ → Cell
cell_at pages addr = cell_in pages.cells.items (slice_index_or pages.starts.items (addr / 32) None) (addr % 32)
