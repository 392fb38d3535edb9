-- How cells are kept in pages of 32.
use Rattle.std.specs.Prelude.{◌+◌, ◌≡◌, ◌≢◌, ◌≤◌, ℕ, List, None, Option, Some, length, slice_index_or}
use Rattle.effect_log.specs.declared.cells.Cell.{Cell}

-- the cell of an address of which nothing was found
abbrev pub blank_cell : Cell
blank_cell = record { read = None; answer = None; change = None }

-- the cell at a place of a page whose cells begin there, if it was made
abbrev pub cell_in : List Cell → Option ℕ → ℕ → Cell
cell_in cells None place = blank_cell
cell_in cells (Some start) place = slice_index_or cells (start + place) blank_cell

-- these are the starts of all pages: the cells of each page stand there, and no two pages share any
pub record IsPaged (starts : List (Option ℕ)) (cells : List Cell) : Type 0 where
  pub all : length starts ≡ 32768
  pub inside : (page start : ℕ) → slice_index_or starts page None ≡ Some start → start + 32 ≤ length cells
  pub apart : (p q s t : ℕ) → slice_index_or starts p None ≡ Some s → slice_index_or starts q None ≡ Some t → p ≢ q
      → s ≤ t → s + 32 ≤ t
