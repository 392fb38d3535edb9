-- A slice of a list goes on with the element after it, which a longer slice has too.
use Rattle.std.proofs.Common.{◌++◌, ◌+◌, ◌-◌, ◌<◌, ◌∙◌, ◌∷◌, ◌≡◌, ◌≤◌, [], ℕ, All, List, Some, ap, arith, drop, get_or, length, refl, slice_get, slice_range}
use Rattle.std.proofs.Common.{subst, suc, sum_by, take, zero, zero-add}
use Rattle.std.proofs.lemmas.List.{get_or-drop, get_or-take, length-drop, length-take-le, take_more, Sums.sum_by-append, Sums.sum_by-take-le}
use Rattle.std.proofs.lemmas.Option.{get_or_from_slice_get, slice_get_within}

take_twice : {X : Type 0} (m n : ℕ) (xs : List X) → m ≤ n → take m (take n xs) ≡ take m xs
take_twice zero n xs l = refl
take_twice (suc m) zero xs l = absurd (omega arith)
take_twice (suc m) (suc n) [] l = refl
take_twice (suc m) (suc n) (x ∷ xs) l = ap (λ ys. x ∷ ys) (take_twice m n xs (omega arith))

module _ {X : Type 0} (xs : List X) (from i : ℕ) (x : X) (later : from ≤ i) (is : slice_get xs i ≡ Some x) where
  inside : i < length xs
  inside = slice_get_within xs i x is

  within : i - from < length (drop from xs)
  within = let at = inside in simp length-drop (omega arith)

  here : get_or (drop from xs) (i - from) x ≡ x
  here =
      let place : from + (i - from) ≡ i = omega arith in
      get_or-drop from xs (i - from) x ∙ ap (λ k. get_or xs k x) place ∙ get_or_from_slice_get xs i x x is

  pub slice_more : slice_range xs from (i + 1) ≡ slice_range xs from i ++ x ∷ []
  slice_more =
      let longer : (i + 1) - from ≡ (i - from) + 1 = omega arith in
      ap (λ n. take n (drop from xs)) longer ∙ take_more (drop from xs) (i - from) x within
      ∙ ap (λ y. take (i - from) (drop from xs) ++ y ∷ []) here

  pub slice_sum : (f : X → ℕ) (to : ℕ) → i < to → sum_by f (slice_range xs from i) + f x ≤ sum_by f (slice_range xs from to)
  slice_sum f to before =
      let part : take ((i + 1) - from) (slice_range xs from to) ≡ slice_range xs from (i + 1) =
      take_twice ((i + 1) - from) (to - from) (drop from xs) (omega arith) in
      let sum : sum_by f (slice_range xs from (i + 1)) ≡ sum_by f (slice_range xs from i) + f x =
      ap (sum_by f) slice_more ∙ sum_by-append f (slice_range xs from i) (x ∷ []) ∙ ap (λ n. sum_by f (slice_range xs from i) + n) (zero-add (f x)) in
      let whole = sum_by-take-le f (slice_range xs from to) ((i + 1) - from) in
      let same : sum_by f (take ((i + 1) - from) (slice_range xs from to)) ≡ sum_by f (slice_range xs from i) + f x = ap (sum_by f) part ∙ sum in
      omega arith

  pub slice_has : (P : X → Type 0) (to : ℕ) → i < to → to ≤ length xs → All P (slice_range xs from to) → P x
  slice_has P to before all_inside all =
      let long : length (slice_range xs from to) ≡ to - from = length-take-le (to - from) (drop from xs) (simp length-drop (omega arith)) in
      let same : get_or (slice_range xs from to) (i - from) x ≡ x = get_or-take (to - from) (drop from xs) (i - from) x (omega arith) ∙ here in
      subst P same (all (i - from) x (omega arith))
