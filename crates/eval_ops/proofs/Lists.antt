-- A list from a place on.
use Rattle.std.proofs.Common.{◌∷◌, ◌≡◌, [], ℕ, List, Some, ap, drop, slice_get, suc, zero}
use Rattle.core_program.proofs.OutcomesCompose.{some_same}

pub drop_get : {A : Type 0} (xs : List A) (i : ℕ) (x : A) → slice_get xs i ≡ Some x → drop i xs ≡ x ∷ drop (suc i) xs
drop_get [] i x e = absurd (let q : ⊥ = cc in q)
drop_get (y ∷ ys) zero x e = ap (λ z. z ∷ ys) (some_same e)
drop_get (y ∷ ys) (suc i) x e = drop_get ys i x e
