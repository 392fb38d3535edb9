-- Parts that are pushed one after another.
use Rattle.std.proofs.Common.{◌++◌, ◌+◌, ◌<◌, ◌∙◌, ◌∷◌, ◌≡◌, ◌≤◌, [], ℕ, List, ap, arith, drop, get_or, length, refl, slice_index_or, suc, sym, zero}
use Rattle.std.proofs.lemmas.List.{drop_all}
use Rattle.cell_names.proofs.PartsInTurn.{finds_all, finds_on}
use Rattle.cell_names.specs.{Places.finds, declared.places.PlacedPart.PlacedPart}

drop_next : {X : Type 0} (xs : List X) (n : ℕ) (d : X) → n < length xs → drop n xs ≡ get_or xs n d ∷ drop (suc n) xs
drop_next [] n d below = absurd (omega (arith, below))
drop_next (x ∷ xs) zero d below = refl
drop_next (x ∷ xs) (suc n) d below = drop_next xs n d (omega (arith, below))

pub pushed_first : (parts places : List PlacedPart) → places ≡ [] → finds (places ++ drop 0 parts) ≡ finds parts
pushed_first parts places none = ap (λ l. finds (l ++ parts)) none

-- one more
pub pushed_on : (parts places more : List PlacedPart) (at : ℕ) (d : PlacedPart) → at < length parts
    → finds more ≡ finds (places ++ slice_index_or parts at d ∷ []) → finds (places ++ drop at parts) ≡ finds parts
    → finds (more ++ drop (at + 1) parts) ≡ finds parts
pushed_on parts places more at d below pushed so_far =
    let e : at + 1 ≡ suc at = omega arith in
    ap (λ n. finds (more ++ drop n parts)) e
    ∙ finds_on places more (slice_index_or parts at d ∷ []) (drop (suc at) parts) parts pushed
    (ap (λ l. finds (places ++ l)) (sym (drop_next parts at d below)) ∙ so_far)

pub pushed_all : (parts places : List PlacedPart) (at : ℕ) → length parts ≤ at → finds (places ++ drop at parts) ≡ finds parts → finds places ≡ finds parts
pushed_all parts places at past so_far =
    finds_all places parts (ap (λ l. finds (places ++ l)) (sym (drop_all at parts past)) ∙ so_far)
