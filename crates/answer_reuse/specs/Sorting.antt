-- The calls of a run that may be alike to others, as they are put in order to find classes.
use Rattle.std.specs.Prelude.{◌<◌, ◌≡◌, ℕ, Bool, List, Some, false, length, nat_le, nat_lt, slice_get, true}
use Rattle.std.specs.{List.All, List.Contains, List.Sorted.IsSortedBy, declared.cmp.Ordering.Ordering}
use Rattle.std.specs.Ordering.{is_lt, nat_cmp, ordering_then}
use Rattle.core_program.specs.Agree.{EndedByItself}
use Rattle.call_tree.specs.declared.records.Call.{Call}
use Rattle.program_run.specs.declared.history.History.{History}
use Rattle.answer_reuse.specs.{Keys.IsKeyed, Keys.compare_keys, Keys.key_of, declared.keys.Keyed.Keyed}

-- a call of the run that ended by itself, with its row
pub record IsKeyOf (h : History) (k : Keyed) : Type 0 where
  pub row : slice_get h.calls.calls k.call ≡ Some k.row.now
  pub ended : EndedByItself k.row.now.way
  pub keyed : IsKeyed h k

-- these are all such calls among the first so many
pub record AreKeysTo (h : History) (calls : ℕ) (keys : List Keyed) : Type 0 where
  pub each : All (IsKeyOf h) keys
  pub within : All (λ k. k.call < calls) keys
  pub all : (call : ℕ) (row : Call) → call < calls → slice_get h.calls.calls call ≡ Some row → EndedByItself row.way
      → (k : Keyed) × Contains keys k × (k.call ≡ call)

abbrev pub AreKeys : History → List Keyed → Type 0
AreKeys h keys = AreKeysTo h (length h.calls.calls) keys

-- by digests first, since two numbers are soon compared; then by keys; and those of one class by their numbers
abbrev pub tied_order : History → (one other : Keyed) → Ordering
tied_order h one other = ordering_then (compare_keys h one other) (nat_cmp one.call other.call)

unfoldable pub order_in : History → (one other : Keyed) → Ordering
order_in h one other =
    ordering_then (nat_cmp one.digest other.digest) (tied_order h one other)

abbrev pub comes_first : History → (one other : Keyed) → Bool
comes_first h one other = is_lt (order_in h one other)

pub record AreSorted (h : History) (keys : List Keyed) : Type 0 where
  pub keys' : AreKeys h keys
  pub sorted : IsSortedBy (comes_first h) keys

-- whether two calls have the same key
abbrev pub SameKey : History → (one other : Keyed) → Type 0
SameKey h one other = key_of h one ≡ key_of h other

-- whether two neighbours are in order by the least that can be asked: by their numbers where they are of one class, by
-- their digests where they are not
abbrev pub rises : (is_same : Bool) → (one other : Keyed) → Bool
rises true one other = nat_le one.call other.call
rises false one other = nat_lt one.digest other.digest
