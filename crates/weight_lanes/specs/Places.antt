-- Places of columns, and the number by which places are compared.
use Rattle.std.specs.Prelude.{◌-◌, ◌<◌, ◌≡◌, ◌≢◌, ◌≤◌, ℕ, List, length, max, slice_index}

-- the column holds the value at the place
pub record Holds (column : List ℕ) (value place : ℕ) : Type 0 where
  pub inside : place < length column
  pub same : slice_index column place ≡ value

-- the call at the place weighs nothing, and calls stand below it, up to the last call of its subtree
pub record IsWeightlessParent (weights last : List ℕ) (place : ℕ) : Type 0 where
  pub inside : place < length weights
  pub weightless : slice_index weights place ≡ 0
  pub parent : slice_index last place ≢ place

-- the flag at the place is not 0
pub record IsSet (flags : List ℕ) (place : ℕ) : Type 0 where
  pub inside : place < length flags
  pub nonzero : slice_index flags place ≢ 0

-- Of `total` suspects, of which `weight` stand in the subtree of a call, the worse of the two answers on that call
-- leaves this many: `wrong` leaves those of the subtree but the call itself, `right` leaves those outside it. It is
-- this
-- project's measure for divide and query (Shapiro, "Algorithmic Program Debugging", 1983).
abbrev pub left_of : ℕ → ℕ → ℕ
left_of total weight = max (weight - 1) (total - weight)

-- the number of the place at which the weights have `weight`
abbrev pub left_at : List ℕ → ℕ → ℕ → ℕ
left_at weights total place = left_of total (slice_index weights place)

-- where a place may be asked about, its weight is from 1 to `total`
pub record AreWeighed (weights askable : List ℕ) (total : ℕ) : Type 0 where
  pub at_least_one : (place : ℕ) → IsSet askable place → 1 ≤ slice_index weights place
  pub at_most_total : (place : ℕ) → IsSet askable place → slice_index weights place ≤ total

-- the place may be asked about, and the worse answer there leaves fewer than `bound` of `total` suspects
pub record LeavesFewer (weights askable : List ℕ) (total bound place : ℕ) : Type 0 where
  pub inside : place < length weights
  pub nonzero : slice_index askable place ≢ 0
  pub fewer : left_at weights total place < bound
