-- Where the region stands among the calls, and the subtrees in it.
use Rattle.std.specs.Prelude.{◌+◌, ◌≤◌, ℕ, List, None, Option, Some, length, slice_index}
use Rattle.call_tree.specs.Numbering.{AreIntervals}

-- the subtrees are intervals, one within another or apart
pub record AreNested (last : List ℕ) : Type 0 where
  pub intervals : AreIntervals last
  pub nested : (above call : ℕ) → above ≤ call → call ≤ slice_index last above
      → slice_index last call ≤ slice_index last above

-- the first call below the accused, and the one after the last
abbrev pub start_below : Option ℕ → ℕ
start_below None = 0
start_below (Some accused) = accused + 1

abbrev pub end_below : List ℕ → Option ℕ → ℕ
end_below last None = length last
end_below last (Some accused) = slice_index last accused + 1
