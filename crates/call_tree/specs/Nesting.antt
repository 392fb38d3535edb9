-- How the calls of a run stand in one another, while it goes on: their parents, the last calls of their subtrees and
-- their depths, as columns in order of entry, and the open calls, the innermost first.
use Rattle.std.specs.Prelude.{◌+◌, ◌<◌, ◌∷◌, ◌≡◌, ◌≤◌, ◌⊎◌, [], ℕ, List, None, Option, Some, length, slice_get}
use Rattle.std.specs.Prelude.{slice_index}
use Rattle.call_tree.specs.Numbering.{IsParent}

-- the first call alone has no parent, and the depth of a call is the number of calls above it
pub record IsRooted (parent : List (Option ℕ)) (depth : List ℕ) : Type 0 where
  pub root : (call : ℕ) → slice_get parent call ≡ Some None → call ≡ 0
  pub root_has_none : 0 < length parent → slice_get parent 0 ≡ Some None
  pub root_depth : slice_index depth 0 ≡ 0
  pub child_depth : (above call : ℕ) → IsParent parent above call → slice_index depth call ≡ slice_index depth above + 1

-- whether a call is one of the open ones
abbrev pub IsOpen : ℕ → List ℕ → Type 0
IsOpen call [] = ⊥
IsOpen call (number ∷ outer) = (call ≡ number) ⊎ IsOpen call outer

-- an open call, under these others: it was called by the innermost of them, was entered after each, and is as deep as
-- they are many
pub record IsUnder (parent : List (Option ℕ)) (depth : List ℕ) (call : ℕ) (outer : List ℕ) : Type 0 where
  pub a_call : call < length parent
  pub parent_is : slice_get parent call ≡ Some (slice_get outer 0)
  pub depth_is : slice_index depth call ≡ length outer
  pub later : (other : ℕ) → IsOpen other outer → other < call

-- each open call is under those that follow it
abbrev pub IsChain : List (Option ℕ) → List ℕ → List ℕ → Type 0
IsChain parent depth [] = Unit {0}
IsChain parent depth (call ∷ outer) = IsUnder parent depth call outer × IsChain parent depth outer

-- the subtree of a call that was left is the interval from it to its last call, and that of an open call goes on to the
-- last one entered
pub record IsNested (parent : List (Option ℕ)) (last depth open_calls : List ℕ) : Type 0 where
  pub parents : length parent ≡ length last
  pub depths : length depth ≡ length last
  pub chain : IsChain parent depth open_calls
  pub rooted : IsRooted parent depth
  pub child_is_later : (above call : ℕ) → IsParent parent above call → above < call
  pub from_itself : (call : ℕ) → call < length last → ¬ IsOpen call open_calls → call ≤ slice_index last call
  pub to_a_call : (call : ℕ) → call < length last → ¬ IsOpen call open_calls → slice_index last call < length last
  pub ends_within : (above call : ℕ) → IsParent parent above call → ¬ IsOpen above open_calls
      → slice_index last call ≤ slice_index last above
  pub under_open : (top call : ℕ) → IsOpen top open_calls → top < call → call < length last
      → (above : ℕ) × (top ≤ above) × IsParent parent above call
  pub under_left : (top call : ℕ) → top < length last → ¬ IsOpen top open_calls → top < call
      → call ≤ slice_index last top
      → (above : ℕ) × (top ≤ above) × IsParent parent above call
