-- What stands at a place of a list to whose end one more is put.
use Rattle.std.proofs.Common.{◌++◌, ◌-◌, ◌<◌, ◌∙◌, ◌∷◌, ◌≡◌, ◌⊎◌, [], ℕ, List, Some, ap, arith, get_or, inl, inr, length, refl, reverse, slice_get, suc, sym}
use Rattle.std.proofs.{Common.zero, lemmas.List.get_or-reverse, lemmas.List.length-reverse, lemmas.Option.slice_get-get_or}

pub get_snoc : {X : Type 0} (xs : List X) (y : X) (k : ℕ) (z : X) → slice_get (xs ++ y ∷ []) k ≡ Some z → ((k < length xs) × (slice_get xs k ≡ Some z))
    ⊎ ((k ≡ length xs) × (y ≡ z))
get_snoc [] y zero z h = inr (refl, cc)
get_snoc [] y (suc k) z h = cc
get_snoc (x ∷ xs) y zero z h = inl (omega arith, h)
get_snoc (x ∷ xs) y (suc k) z h = elim (get_snoc xs y k z h) [ inl p ↦ inl (omega arith, p.1) | inr p ↦ inr (omega arith, p.1) ]

pub get_snoc_before : {X : Type 0} (xs : List X) (y : X) (k : ℕ) (z : X) → slice_get xs k ≡ Some z → slice_get (xs ++ y ∷ []) k ≡ Some z
get_snoc_before [] y k z h = cc
get_snoc_before (x ∷ xs) y zero z h = h
get_snoc_before (x ∷ xs) y (suc k) z h = get_snoc_before xs y k z h

pub get_snoc_last : {X : Type 0} (xs : List X) (y : X) → slice_get (xs ++ y ∷ []) (length xs) ≡ Some y
get_snoc_last [] y = refl
get_snoc_last (x ∷ xs) y = get_snoc_last xs y

-- the last element comes first in the reversed list
pub last_is_first_reversed : {X : Type 0} (xs : List X) → slice_get xs (length xs - 1) ≡ slice_get (reverse xs) 0
last_is_first_reversed [] = refl
last_is_first_reversed {X} (x ∷ xs) =
    let all : List X = x ∷ xs in
    let some : 0 < length (x ∷ xs) = omega arith in
    let some_reversed : 0 < length (reverse (x ∷ xs)) = rw (length-reverse (x ∷ xs)) some in
    slice_get-get_or (x ∷ xs) (length (x ∷ xs) - 1) x (omega arith)
    ∙ ap Some (ap (λ k. get_or (x ∷ xs) k x) (omega arith) ∙ sym (get_or-reverse (x ∷ xs) 0 x some))
    ∙ sym (slice_get-get_or (reverse (x ∷ xs)) 0 x some_reversed)
