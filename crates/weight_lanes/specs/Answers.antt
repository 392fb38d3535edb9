-- What each search promises of its answer, as one fact.
use Rattle.std.specs.Prelude.{◌<◌, ◌↔◌, ◌≡◌, ◌≢◌, ◌≤◌, ℕ, All, IfSome, IsNone, List, Option}
use Rattle.weight_lanes.specs.Places.{Holds, IsSet, IsWeightlessParent, left_at}
use Rattle.weight_lanes.specs.declared.choice.Choice.{Choice}

-- the first of the askable places of which the worse answer leaves the fewest
pub record IsBest (weights askable : List ℕ) (total : ℕ) (answer : Option Choice) : Type 0 where
  pub none : IsNone answer ↔ All (λ flag. flag ≡ 0) askable
  pub at_askable : IfSome answer (λ choice. IsSet askable choice.at)
  pub left : IfSome answer (λ choice. choice.left ≡ left_at weights total choice.at)
  pub least : IfSome answer (λ choice. (place : ℕ) → IsSet askable place → choice.left ≤ left_at weights total place)
  pub first : IfSome answer (λ choice. (place : ℕ) → place < choice.at → IsSet askable place
      → left_at weights total place ≢ choice.left)

-- the least place of at least `from` that holds the value
pub record IsNext (column : List ℕ) (from value : ℕ) (answer : Option ℕ) : Type 0 where
  pub none : IsNone answer ↔ ((place : ℕ) → from ≤ place → ¬ Holds column value place)
  pub holds : IfSome answer (λ place. Holds column value place)
  pub at_least : IfSome answer (λ place. from ≤ place)
  pub least : IfSome answer (λ place. (other : ℕ) → from ≤ other → Holds column value other → place ≤ other)

-- the least place of at least `from` at which a call weighs nothing that has calls below it
pub record IsNextWeightlessParent (weights last : List ℕ) (from : ℕ) (answer : Option ℕ) : Type 0 where
  pub none : IsNone answer ↔ ((place : ℕ) → from ≤ place → ¬ IsWeightlessParent weights last place)
  pub holds : IfSome answer (λ place. IsWeightlessParent weights last place)
  pub at_least : IfSome answer (λ place. from ≤ place)
  pub least : IfSome answer (λ place. (other : ℕ) → from ≤ other → IsWeightlessParent weights last other
      → place ≤ other)

-- the greatest place whose flag is not 0
pub record IsLastSet (flags : List ℕ) (answer : Option ℕ) : Type 0 where
  pub none : IsNone answer ↔ All (λ flag. flag ≡ 0) flags
  pub set : IfSome answer (λ place. IsSet flags place)
  pub greatest : IfSome answer (λ place. (other : ℕ) → IsSet flags other → other ≤ place)

-- the least place of at least `from` that has the property
pub record IsNextWhere (Q : ℕ → Type 0) (from : ℕ) (answer : Option ℕ) : Type 0 where
  pub none : IsNone answer ↔ ((place : ℕ) → from ≤ place → ¬ Q place)
  pub holds : IfSome answer (λ place. Q place)
  pub at_least : IfSome answer (λ place. from ≤ place)
  pub least : IfSome answer (λ place. (other : ℕ) → from ≤ other → Q other → place ≤ other)
