-- The first of a list that is such, found from its front on.
use Rattle.std.proofs.Common.{◌+◌, ◌∙◌, ◌∷◌, ◌≡◌, [], ℕ, Bool, List, Some, ap, arith, drop, false, find, refl, suc, true, zero}
use Rattle.std.specs.List.{slice_get}
use Rattle.core_program.proofs.OutcomesCompose.{none_some, some_same}

module _ {X : Type 0} (such : X → Bool) where
  first_such : (x : X) (xs : List X) → such x ≡ true → find such (x ∷ xs) ≡ Some x
  first_such x xs e = simp e refl

  not_such : (x : X) (xs : List X) → such x ≡ false → find such (x ∷ xs) ≡ find such xs
  not_such x xs e = simp e refl

  pub found_here : (xs : List X) (i : ℕ) (x : X) → slice_get xs i ≡ Some x → such x ≡ true → find such (drop i xs) ≡ Some x
  found_here [] zero x e h = absurd (none_some e)
  found_here [] (suc i) x e h = absurd (none_some e)
  found_here (y ∷ ys) zero x e h = ap (λ (z : X). find such (z ∷ ys)) (some_same e) ∙ first_such x ys h
  found_here (y ∷ ys) (suc i) x e h = found_here ys i x e h

  passed_next : (xs : List X) (i : ℕ) (x : X) → slice_get xs i ≡ Some x → such x ≡ false → find such (drop i xs) ≡ find such (drop (suc i) xs)
  passed_next [] zero x e h = absurd (none_some e)
  passed_next [] (suc i) x e h = absurd (none_some e)
  passed_next (y ∷ ys) zero x e h = ap (λ (z : X). find such (z ∷ ys)) (some_same e) ∙ not_such x ys h
  passed_next (y ∷ ys) (suc i) x e h = passed_next ys i x e h

  pub passed_here : (xs : List X) (i : ℕ) (x : X) → slice_get xs i ≡ Some x → such x ≡ false → find such (drop i xs) ≡ find such (drop (i + 1) xs)
  passed_here xs i x e h =
      let next : suc i ≡ i + 1 = omega arith in
      passed_next xs i x e h ∙ ap (λ (n : ℕ). find such (drop n xs)) next
