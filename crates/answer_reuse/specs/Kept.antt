-- How classes are kept, and how calls come into them.
use Rattle.std.specs.Prelude.{if◌then◌else◌, ◌<◌, ◌≡◌, ◌≤◌, ◌⊎◌, ℕ, Bool, List, Some, length, slice_get, slice_index}
use Rattle.std.specs.Prelude.{slice_set, vec_len}
use Rattle.program_run.specs.declared.history.History.{History}
use Rattle.answer_book.specs.Numbers.{numbers_below}
use Rattle.answer_reuse.specs.Sorting.{AreSorted, SameKey}
use Rattle.answer_reuse.specs.declared.{classes.Classes.TheInside.Inside, keys.Keyed.Keyed}

pub record IsKept (kept : Inside) : Type 0 where
  pub few : vec_len kept.least ≤ 500000

-- each call in a class of its own
abbrev pub each_itself : ℕ → List ℕ
each_itself calls = numbers_below calls

-- a call in the class of a lesser one, if they have the same key
abbrev pub joined_one : (classes : List ℕ) → Bool → (lesser call : ℕ) → List ℕ
joined_one classes is_same lesser call =
    if is_same then slice_set classes call (slice_index classes lesser) else classes

-- a lesser call with the same key
pub record HasLesser (h : History) (keys : List Keyed) (call least : ℕ) : Type 0 where
  pub at : ℕ
  pub key : Keyed
  pub stands : slice_get keys at ≡ Some key
  pub is : key.call ≡ call
  pub lesser : ℕ
  pub other : Keyed
  pub other_stands : slice_get keys lesser ≡ Some other
  pub other_is : other.call ≡ least
  pub less : least < call
  pub same : SameKey h key other

-- Two of the first so many keys that are the same are those of calls of one class; the least of a class is a lesser
-- call with the same key, or the call itself.
pub record AreJoined (h : History) (keys : List Keyed) (many : ℕ) (classes : List ℕ) : Type 0 where
  pub each : length classes ≡ length h.calls.calls
  pub same : (i j : ℕ) (k l : Keyed) → i < many → j < many → slice_get keys i ≡ Some k → slice_get keys j ≡ Some l
      → SameKey h k l → slice_index classes k.call ≡ slice_index classes l.call
  pub least : (call : ℕ) → call < length h.calls.calls
      → (slice_index classes call ≡ call) ⊎ HasLesser h keys call (slice_index classes call)

abbrev pub IsJoined : History → List Keyed → List ℕ → Type 0
IsJoined h keys classes = AreJoined h keys (length keys) classes

-- classes of the calls of a run that may be alike to others, put in order and joined
pub record AreClassesOf (h : History) (classes : List ℕ) : Type 0 where
  pub keys : List Keyed
  pub sorted : AreSorted h keys
  pub joined : IsJoined h keys classes
