-- How deep types stand in one another where two have one shape: the level of a pair of them, which is one more than the
-- greatest level of the pairs inside of it. A pair that does not match has none.
use Rattle.std.specs.Prelude.{◌≡◌, ◌≤◌, ℕ, Bool, List, None, Option, Some, false, length, nat_le, slice_get, unwrap_or}
use Rattle.std.specs.{Global.Vec, List.list_all}
use Rattle.reference_oracle.specs.{PairsOfTypes.AreNoted, declared.parts.TypePair.TypePair}
use Rattle.reference_oracle.specs.Shapes.{Programs, same_within}

-- the level of the pair of a number
abbrev pub level_at : List (Option ℕ) → (number : ℕ) → Option ℕ
level_at levels number = unwrap_or (slice_get levels number) None

-- a pair of this level matches where types stand at most so many deep in one another
abbrev pub is_within : (most : ℕ) → Option ℕ → Bool
is_within most None = false
is_within most (Some level) = nat_le level most

-- all pairs of these numbers do
abbrev pub all_within : List (Option ℕ) → (most : ℕ) → List ℕ → Bool
all_within levels most ns = list_all (λ n. is_within most (level_at levels n)) ns

-- all pairs inside of one do, if it can match
abbrev pub match_within : List (Option ℕ) → (most : ℕ) → Option (Vec ℕ) → Bool
match_within levels most None = false
match_within levels most (Some ns) = all_within levels most ns.items

-- the levels are those of the pairs
abbrev pub AreLevels : Programs → List TypePair → List (Option ℕ) → Type 0
AreLevels ps pairs levels = (number : ℕ) (q : TypePair) → slice_get pairs number ≡ Some q
    → (most : ℕ) → same_within ps most q ≡ is_within most (level_at levels number)

-- the levels that are there are
abbrev pub AreLevelsSoFar : Programs → List TypePair → List (Option ℕ) → Type 0
AreLevelsSoFar ps pairs levels = (number : ℕ) (q : TypePair) (level : ℕ) → slice_get pairs number ≡ Some q
    → level_at levels number ≡ Some level → (most : ℕ) → same_within ps most q ≡ nat_le level most

-- ---- steps

-- levels were noted, and those that were there stay
pub record Leads (inside : List (Option (Vec ℕ))) (old new : List (Option ℕ)) : Type 0 where
  pub size : length new ≡ length old
  pub more : (number level : ℕ) → level_at old number ≡ Some level → level_at new number ≡ Some level
  pub levels : (ps : Programs) (pairs : List TypePair) → AreNoted ps pairs inside → AreLevelsSoFar ps pairs old
      → AreLevelsSoFar ps pairs new

-- if a pair has no level, it is not to be noted yet
abbrev pub IsStuck : List (Option (Vec ℕ)) → List (Option ℕ) → (number : ℕ) → Type 0
IsStuck inside levels number = (ns : Option (Vec ℕ)) → slice_get inside number ≡ Some ns
    → level_at levels number ≡ None → (most : ℕ) → match_within levels most ns ≡ false

-- none from one on is
abbrev pub IsSettled : List (Option (Vec ℕ)) → (start : ℕ) → List (Option ℕ) → Type 0
IsSettled inside start levels = (number : ℕ) → start ≤ number → IsStuck inside levels number
