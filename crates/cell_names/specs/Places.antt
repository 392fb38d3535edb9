-- What begins where: lists of parts of a frame, of a record or of the heap.
use Rattle.std.specs.Prelude.{◌<◌, ◌≤◌, ℕ, Bool, List, None, Option, Some, filter, length, nat_le, slice_index_or, true}
use Rattle.std.specs.List.{AllPairs}
use Rattle.cell_value.specs.Effects.{last_of}
use Rattle.cell_names.specs.declared.places.PlacedPart.{PlacedPart}

-- whether a part begins at a place or before it
abbrev pub is_begun : (at : ℕ) → PlacedPart → Bool
is_begun at part = nat_le part.place at

abbrev pub is_begun_by : (at : ℕ) → Option PlacedPart → Bool
is_begun_by at None = true
is_begun_by at (Some part) = is_begun at part

-- Which of some parts has a place: the last of them, in their order, that begins there or before. Parts without cells
-- begin where the next one does, which has the place.
unfoldable pub last_at : (at : ℕ) → List PlacedPart → Option PlacedPart
last_at at parts = last_of (filter (is_begun at) parts)

-- which of some parts has each place
abbrev pub finds : List PlacedPart → (at : ℕ) → Option PlacedPart
finds parts = λ at. last_at at parts

-- each part begins before the next one
abbrev pub IsRising : List PlacedPart → Type 0
IsRising parts = AllPairs (λ part next. part.place < next.place) parts

-- the first n parts begin before a place, and the others there or after it
pub record IsSplit (place : ℕ) (parts : List PlacedPart) (n : ℕ) : Type 0 where
  pub inside : n ≤ length parts
  pub before : (k : ℕ) (d : PlacedPart) → k < n → (slice_index_or parts k d).place < place
  pub after : (k : ℕ) (d : PlacedPart) → n ≤ k → k < length parts → place ≤ (slice_index_or parts k d).place

-- A place before the part of a number, which is none of the first ones. So what has the place, if it is none of those,
-- is a part before that one.
pub record IsAmong (parts : List PlacedPart) (first last place : ℕ) : Type 0 where
  pub some : first < last
  pub before : (d : PlacedPart) → last < length parts → place < (slice_index_or parts last d).place
