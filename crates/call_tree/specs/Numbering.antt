-- Calls numbered from 0 in order of entry, each with the last call of its subtree and its parent.
use Rattle.std.specs.Prelude.{◌<◌, ◌≡◌, ◌≤◌, ℕ, List, Option, Some, length, slice_get, slice_index}

-- the last call of each call's subtree is a call, and none before the call itself
pub record AreIntervals (last : List ℕ) : Type 0 where
  pub from_itself : (call : ℕ) → call < length last → call ≤ slice_index last call
  pub to_a_call : (call : ℕ) → call < length last → slice_index last call < length last

-- whose parent a call is
abbrev pub IsParent : List (Option ℕ) → ℕ → ℕ → Type 0
IsParent parent above call = slice_get parent call ≡ Some (Some above)

-- The calls are numbered in order of entry, and the subtree of each is the interval from it to its last call:
-- a child comes after its parent and ends no later, and each further call of an interval has its parent there.
pub record IsNumbered (parent : List (Option ℕ)) (last : List ℕ) : Type 0 where
  pub same_length : length parent ≡ length last
  pub intervals : AreIntervals last
  pub child_is_later : (above call : ℕ) → IsParent parent above call → above < call
  pub child_ends_within : (above call : ℕ) → IsParent parent above call → slice_index last call ≤ slice_index last above
  pub parent_is_within : (top call : ℕ) → top < call → call ≤ slice_index last top → (above : ℕ) × (top ≤ above)
      × IsParent parent above call
