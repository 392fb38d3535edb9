-- Texts of the items of a list, written one after another.
use Rattle.std.proofs.Common.{◌++◌, ◌+◌, ◌-◌, ◌<◌, ◌∙◌, ◌∷◌, ◌≡◌, [], ℕ, List, Some, add-one, ap, append_assoc, arith, drop, flat_map, slice_get, slice_range}
use Rattle.std.proofs.Common.{suc, sym, take, zero}

pub drop_get : {X : Type 0} (xs : List X) (at : ℕ) (x : X) → slice_get xs at ≡ Some x → drop at xs ≡ x ∷ drop (suc at) xs
drop_get [] at x e = absurd (let z : ⊥ = cc in z)
drop_get (y ∷ ys) zero x e = ap (λ z. z ∷ ys) (let h : y ≡ x = cc in h)
drop_get (y ∷ ys) (suc at) x e = drop_get ys at x e

-- one more element of a part of a list, from its front
pub range_front : {X : Type 0} (xs : List X) (at to : ℕ) (x : X) → slice_get xs at ≡ Some x → at < to
    → slice_range xs at to ≡ x ∷ slice_range xs (suc at) to
range_front {X} xs at to x found below =
    ap (λ n. take n (drop at xs)) (let e : to - at ≡ suc (to - suc at) = omega (arith, below) in e)
    ∙ ap (λ l. take (suc (to - suc at)) l) (drop_get xs at x found)

-- one more item of a part of a list is written
pub range_written_next : {X : Type 0} (f : X → List ℕ) (xs : List X) (at to : ℕ) (x : X) (before after all : List ℕ) → slice_get xs at ≡ Some x → at < to
    → after ≡ before ++ f x → before ++ flat_map f (slice_range xs at to) ≡ all → after ++ flat_map f (slice_range xs (at + 1) to) ≡ all
range_written_next f xs at to x before after all found below done so_far =
    let rest = flat_map f (slice_range xs (suc at) to) in
    rw add-one (ap (λ t. t ++ rest) done ∙ append_assoc before (f x) rest
    ∙ ap (λ l. before ++ flat_map f l) (sym (range_front xs at to x found below)) ∙ so_far)
