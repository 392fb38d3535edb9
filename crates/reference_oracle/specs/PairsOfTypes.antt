-- The pairs of types that have to match, as the code keeps them: in a list, each by its place there.
use Rattle.std.specs.Prelude.{◌∷◌, ◌≡◌, [], ℕ, Bool, List, None, Option, Some, slice_get}
use Rattle.std.specs.Global.{Vec}
use Rattle.reference_oracle.specs.{Shapes.Programs, Shapes.pairs_inside, declared.parts.TypePair.TypePair}
use Rattle.reference_oracle.specs.contracts.parts.TypePairPartialEq.TheImpl as equality

-- the list in a vector, if there is one
abbrev pub pairs_in : Option (Vec TypePair) → Option (List TypePair)
pairs_in None = None
pairs_in (Some v) = Some v.items

-- a pair, or none, as a list
abbrev pub at_most_one : Option TypePair → List TypePair
at_most_one None = []
at_most_one (Some q) = q ∷ []

abbrev pub same_pair : TypePair → TypePair → Bool
same_pair = (equality.ghosts).eq

-- each that a number is known of stands at that number
abbrev pub AreNumbers : (TypePair → Option ℕ) → List TypePair → Type 0
AreNumbers known pairs = (q : TypePair) (number : ℕ) → known q ≡ Some number → slice_get pairs number ≡ Some q

-- what stood in a list stands there still
abbrev pub Extends : (old new : List TypePair) → Type 0
Extends old new = (number : ℕ) (q : TypePair) → slice_get old number ≡ Some q → slice_get new number ≡ Some q

-- these pairs stand at these numbers
abbrev pub StandAt : List TypePair → List ℕ → List TypePair → Type 0
StandAt pairs [] [] = Unit {0}
StandAt pairs (n ∷ ns) (q ∷ qs) = (slice_get pairs n ≡ Some q) × StandAt pairs ns qs
StandAt pairs ns qs = ⊥

-- the same of the pairs that have to match so that one does
abbrev pub AreInside : List TypePair → Option (Vec ℕ) → Option (List TypePair) → Type 0
AreInside pairs None None = Unit {0}
AreInside pairs (Some ns) (Some qs) = StandAt pairs ns.items qs
AreInside pairs ns qs = ⊥

-- the first pairs of the list have their inner ones noted
abbrev pub AreNoted : Programs → List TypePair → List (Option (Vec ℕ)) → Type 0
AreNoted ps pairs noted = (number : ℕ) (ns : Option (Vec ℕ)) → slice_get noted number ≡ Some ns
    → (q : TypePair) × (slice_get pairs number ≡ Some q) × AreInside pairs ns (pairs_inside ps q)
