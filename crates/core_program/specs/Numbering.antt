-- How the calls of a run are numbered: in order of entry, from 0. A call is told from the numbers of
-- calls that each has below it.
use Rattle.std.specs.Prelude.{◌++◌, ◌+◌, ◌<◌, ◌∷◌, ◌≡◌, [], ℕ, Bool, List, None, Option, Some, cond, length, map}
use Rattle.std.specs.Prelude.{nat_le, slice_index, suc, zero}
use Rattle.cell_value.specs.declared.entries.Touch.{Touch}
use Rattle.core_program.specs.Run.{Call, Marked, Outcome}

-- the greatest number below n that passes
abbrev pub greatest : (ℕ → Bool) → ℕ → Option ℕ
greatest p zero = None
greatest p (suc n) = cond (p n) (Some n) (greatest p n)

-- how many numbers below n pass
abbrev pub count : (ℕ → Bool) → ℕ → ℕ
count p zero = 0
count p (suc n) = cond (p n) 1 0 + count p n

-- how many calls are below each call
abbrev pub belows : List (Marked Call) → List ℕ
belows cs = map (λ c. c.event.below) cs

-- the last call below call k, and k itself where none is
abbrev pub last_below : List ℕ → ℕ → ℕ
last_below bs k = k + slice_index bs k

-- whether call k, which was entered after call j, is below it
abbrev pub is_below : List ℕ → ℕ → ℕ → Bool
is_below bs k j = nat_le k (last_below bs j)

-- the parent of call k: of the calls that have k below them, the last one that was entered
abbrev pub parent_of : List ℕ → ℕ → Option ℕ
parent_of bs k = greatest (is_below bs k) k

-- the depth of call k: how many calls have k below them
abbrev pub depth_of : List ℕ → ℕ → ℕ
depth_of bs k = count (is_below bs k) k

-- each element of a list with its number, from k on
abbrev pub each_from : {A B : Type 0} → (ℕ → A → B) → ℕ → List A → List B
each_from f k [] = []
each_from f k (x ∷ xs) = f k x ∷ each_from f (suc k) xs

-- the calls of a run in order of entry
abbrev pub calls_of : Outcome → List (Marked Call)
calls_of None = []
calls_of (Some r) = r.events

-- the calls below each call are among the calls
pub record Inside (bs : List ℕ) : Type 0 where
  pub inside : (k : ℕ) → k < length bs → last_below bs k < length bs

-- from a mark on the log has these entries
pub record StandsAt (log : List Touch) (mark : ℕ) (entries : List Touch) : Type 0 where
  pub before : List Touch
  pub later : List Touch
  pub is : log ≡ before ++ (entries ++ later)
  pub at : length before ≡ mark

-- call j is in the subtree of call k: it is k, or its parent is in that subtree
pub data InSubtree (bs : List ℕ) (k : ℕ) : ℕ → Type 0 where
  Root : InSubtree bs k k
  Child : (j parent : ℕ) → parent_of bs j ≡ Some parent → InSubtree bs k parent → InSubtree bs k j
