-- Pairs stay where they are while the list of them grows.
use Rattle.std.proofs.Common.{◌<◌, ◌∷◌, ◌≡◌, [], ℕ, List, None, Option, Some, arith, length, refl, slice_get, suc, zero}
use Rattle.std.specs.Global.{Vec}
use Rattle.reference_oracle.specs.{Shapes.Programs, Shapes.pairs_inside, declared.parts.TypePair.TypePair}
use Rattle.reference_oracle.specs.PairsOfTypes.{AreInside, AreNoted, Extends, StandAt}

pub stand_longer : (old new : List TypePair) → Extends old new → (ns : List ℕ) (qs : List TypePair) → StandAt old ns qs → StandAt new ns qs
stand_longer old new e [] [] h = tt
stand_longer old new e (n ∷ ns) (q ∷ qs) h = (e n q h.0, stand_longer old new e ns qs h.1)
stand_longer old new e [] (q ∷ qs) h = absurd h
stand_longer old new e (n ∷ ns) [] h = absurd h

pub inside_longer : (old new : List TypePair) → Extends old new → (ns : Option (Vec ℕ)) (qs : Option (List TypePair)) → AreInside old ns qs
    → AreInside new ns qs
inside_longer old new e None None h = tt
inside_longer old new e (Some ns) (Some qs) h = stand_longer old new e ns.items qs h
inside_longer old new e None (Some qs) h = absurd h
inside_longer old new e (Some ns) None h = absurd h

pub noted_longer : (ps : Programs) (old new : List TypePair) (noted : List (Option (Vec ℕ))) → Extends old new → AreNoted ps old noted
    → AreNoted ps new noted
noted_longer ps old new noted e h number ns there =
    let x = h number ns there in (x.0, e number x.0 x.1, inside_longer old new e ns (pairs_inside ps x.0) x.2)

-- something stands at each number of a list
pub there_is : {A : Type 0} (xs : List A) (i : ℕ) → i < length xs → (x : A) × (slice_get xs i ≡ Some x)
there_is [] i h = absurd (omega arith)
there_is (x ∷ xs) zero h = (x, refl)
there_is (x ∷ xs) (suc i) h = there_is xs i (omega arith)
