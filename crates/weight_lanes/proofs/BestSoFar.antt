-- What the plain loop knows of its best choice so far.
use Rattle.std.proofs.Common.{◌<◌, ◌≡◌, ◌≢◌, ◌≤◌, ℕ, List, MatchOption, Option, get_or}
use Rattle.weight_lanes.specs.{Lanes.NoneIn, Places.left_at, declared.choice.Choice.Choice}

-- of the places below `count` whose flag is not 0, the choice is the first of those with the least number
pub record IsBestBelow (weights askable : List ℕ) (total count : ℕ) (choice : Choice) : Type 0 where
  pub inside : choice.at < count
  pub set : get_or askable choice.at 0 ≢ 0
  pub left : choice.left ≡ left_at weights total choice.at
  pub least : (place : ℕ) → place < count → get_or askable place 0 ≢ 0 → choice.left ≤ left_at weights total place
  pub first : (place : ℕ) → place < choice.at → get_or askable place 0 ≢ 0 → choice.left < left_at weights total place

-- the same, or that there is none
abbrev pub BestBelow : List ℕ → List ℕ → ℕ → ℕ → Option Choice → Type 0
BestBelow weights askable total count best =
    MatchOption best (NoneIn (λ place. get_or askable place 0 ≢ 0) 0 count) (λ choice. IsBestBelow weights askable total count choice)
