-- The sums while the change of one weight moves up, and while they are counted from the last call to the first.
use Rattle.std.specs.Prelude.{if◌then◌else◌, ◌+◌, ◌-◌, ◌<◌, ◌==◌, ◌≡◌, ℕ, List, None, Option, Some, length, slice_index}
use Rattle.std.specs.Prelude.{slice_index_or, slice_set, sum_by}
use Rattle.call_tree.specs.declared.records.Mark.{Mark}
use Rattle.subtree_weights.specs.{Searched.mark_at, Weights.weight_by, declared.changes.Change.Change}
use Rattle.subtree_weights.specs.Sums.{children_of, is_child}

-- the part of a child's weight in the sum of a call: all of it or none
abbrev pub share : List (Option ℕ) → ℕ → ℕ → ℕ → ℕ
share parent above child weight = if is_child parent above child then weight else 0

-- these are sums but for one call's weight, which was `before` when it was added
pub record AreSumsBut (parent : List (Option ℕ)) (marks : List Mark) (weights unders : List ℕ) (change : Change)
    : Type 0 where
  pub a_call : change.call < length parent
  pub after : slice_index weights change.call ≡ change.after
  pub weight_is : (call : ℕ) → call < length parent
      → slice_index weights call ≡ weight_by (mark_at marks call) (slice_index unders call)
  pub under_is : (call : ℕ) → call < length parent
      → slice_index unders call + share parent call change.call change.after
      ≡ sum_by (slice_index weights) (children_of parent call) + share parent call change.call change.before

-- the parent that the change of a weight goes on to: none where the weight stays
abbrev pub goes_on_to : List (Option ℕ) → Change → Option ℕ
goes_on_to parent change = if change.before == change.after then None else slice_index_or parent change.call None

-- the sum of a call after the change of a child's weight, and the change of that call's own weight
abbrev pub sum_after : List ℕ → Change → ℕ → ℕ
sum_after unders change above = slice_index unders above - change.before + change.after

abbrev pub change_above : List Mark → List ℕ → List ℕ → Change → ℕ → Change
change_above marks weights unders change above = record {
  call = above;
  before = slice_index weights above;
  after = weight_by (mark_at marks above) (sum_after unders change above);
}

-- the sums where a weight is added to that of the parent
abbrev pub raised : List ℕ → Option ℕ → ℕ → List ℕ
raised unders None weight = unders
raised unders (Some above) weight = slice_set unders above (slice_index unders above + weight)
