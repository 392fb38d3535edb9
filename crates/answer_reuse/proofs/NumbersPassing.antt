-- The numbers below one that pass a test, and the first of them.
use Rattle.std.proofs.Common.{if◌then◌else◌, ◌&&◌, ◌++◌, ◌+◌, ◌<◌, ◌∙◌, ◌∷◌, ◌≡◌, ◌≤◌, [], ℕ, Bool, List, None, Some, ap, arith, cond, false, filter, find, inl}
use Rattle.std.proofs.Common.{inr, length, nat_lt, refl, suc, true, zero}
use Rattle.std.proofs.lemmas.{Bool.Decides.eqb_tells, Bool.Decides.nat_tests, List.length-append, List.Elements.filter-append}
use Rattle.std.specs.List.{range_with_len}
use Rattle.answer_book.specs.Numbers.{numbers_below}

range_more : (a n j : ℕ) → a + n ≡ j → range_with_len a (suc n) ≡ range_with_len a n ++ j ∷ []
range_more a zero j e = let h : a ≡ j = omega arith in ap (λ x. x ∷ []) h
range_more a (suc n) j e = ap (λ l. a ∷ l) (range_more (a + 1) n j (omega arith))

pub numbers_more : (n : ℕ) → numbers_below (n + 1) ≡ numbers_below n ++ n ∷ []
numbers_more n = let one : n + 1 ≡ suc n = omega arith in ap numbers_below one ∙ range_more 0 n n (omega arith)

-- one number, if it passes
abbrev pub one_if : Bool → ℕ → List ℕ
one_if b n = if b then n ∷ [] else []

module _ (p : ℕ → Bool) where
  filter_one : (n : ℕ) → filter p (n ∷ []) ≡ one_if (p n) n
  filter_one n = by (p n)
    where
      by : (b : Bool) → cond b (n ∷ []) [] ≡ one_if b n
      by true = refl
      by false = refl

  pub passing_more : (n : ℕ) → filter p (numbers_below (n + 1)) ≡ filter p (numbers_below n) ++ one_if (p n) n
  passing_more n = ap (filter p) (numbers_more n) ∙ filter-append p (numbers_below n) (n ∷ []) ∙ ap (λ l. filter p (numbers_below n) ++ l) (filter_one n)

  pub count_more : (n : ℕ) → length (filter p (numbers_below (n + 1))) ≡ length (filter p (numbers_below n)) + (if p n then 1 else 0)
  count_more n = ap length (passing_more n) ∙ length-append (filter p (numbers_below n)) (one_if (p n) n)
      ∙ ap (λ k. length (filter p (numbers_below n)) + k) (by (p n))
    where
      by : (b : Bool) → length (one_if b n) ≡ (if b then 1 else 0)
      by true = refl
      by false = refl

  pub count_least : (n k : ℕ) → n ≤ k → length (filter p (numbers_below n)) ≤ length (filter p (numbers_below k))
  count_least n zero l = let e : n ≡ 0 = omega arith in let z = ap (λ m. length (filter p (numbers_below m))) e in omega (arith, z)
  count_least n (suc k) l = elim (eqb_tells n (suc k)) [
    | inl q ↦ let z = ap (λ m. length (filter p (numbers_below m))) q.1 in omega (arith, z)
    | inr q ↦ let z = count_least n k (let d = q.1 in omega arith) in
        let one : k + 1 ≡ suc k = omega arith in
        let m = count_more k in
        let s = ap (λ m. length (filter p (numbers_below m))) one in
        omega (arith, z, m, s)
  ]

  -- where a number passes, there is one more to come
  pub count_passing : (n k : ℕ) → n < k → p n ≡ true → length (filter p (numbers_below n)) < length (filter p (numbers_below k))
  count_passing n k l e =
      let m : length (filter p (numbers_below (n + 1))) ≡ length (filter p (numbers_below n)) + 1 = count_more n
      ∙ ap (λ b. length (filter p (numbers_below n)) + (if b then 1 else 0)) e in
      let z = count_least (n + 1) k (omega arith) in
      omega (arith, m, z)

  pub count_up_to : (n : ℕ) → length (filter p (numbers_below n)) ≤ n
  count_up_to zero = omega arith
  count_up_to (suc n) = by (p n) (count_more n) (count_up_to n)
    where
      one : n + 1 ≡ suc n
      one = omega arith

      by : (b : Bool) → length (filter p (numbers_below (n + 1))) ≡ length (filter p (numbers_below n)) + (if b then 1 else 0)
          → length (filter p (numbers_below n)) ≤ n → length (filter p (numbers_below (suc n))) ≤ suc n
      by true e z = let s = ap (λ m. length (filter p (numbers_below m))) one in omega (arith, e, z, s)
      by false e z = let s = ap (λ m. length (filter p (numbers_below m))) one in omega (arith, e, z, s)

  -- ---- the first that passes

  pub later_passes : (call k : ℕ) → call < k → p k ≡ true → (nat_lt call k && p k) ≡ true
  later_passes call k l e = ap (λ b. b && p k) (let z : nat_lt call k ≡ true = grind (arith, nat_tests) in z) ∙ e

  pub later_passes_not : (call k : ℕ) → (call < k → p k ≡ false) → (nat_lt call k && p k) ≡ false
  later_passes_not call k h = by (nat_lt call k) refl
    where
      by : (b : Bool) → nat_lt call k ≡ b → (b && p k) ≡ false
      by true e = h (grind (arith, nat_tests))
      by false e = refl

  found_from : (a m k : ℕ) → a ≤ k → k < a + m → ((j : ℕ) → a ≤ j → j < k → p j ≡ false) → p k ≡ true → find p (range_with_len a m) ≡ Some k
  found_from a zero k l below h e = absurd (omega arith)
  found_from a (suc m) k l below h e = elim (eqb_tells a k) [
    | inl q ↦ ap (λ b. cond b (Some a) (find p (range_with_len (a + 1) m))) (ap p q.1 ∙ e) ∙ ap Some q.1
    | inr q ↦ ap (λ b. cond b (Some a) (find p (range_with_len (a + 1) m))) (h a (omega arith) (let z = q.1 in omega arith))
        ∙ found_from (a + 1) m k (let z = q.1 in omega arith) (omega arith) (λ j l below. h j (omega arith) below) e
  ]

  none_from : (a m : ℕ) → ((j : ℕ) → a ≤ j → j < a + m → p j ≡ false) → find p (range_with_len a m) ≡ None
  none_from a zero h = refl
  none_from a (suc m) h = ap (λ b. cond b (Some a) (find p (range_with_len (a + 1) m))) (h a (omega arith) (omega arith))
      ∙ none_from (a + 1) m (λ j l below. h j (omega arith) (omega arith))

  pub found_first : (n k : ℕ) → k < n → ((j : ℕ) → j < k → p j ≡ false) → p k ≡ true → find p (numbers_below n) ≡ Some k
  found_first n k l h e = found_from 0 n k (omega arith) (omega arith) (λ j a below. h j below) e

  pub none_found : (n : ℕ) → ((j : ℕ) → j < n → p j ≡ false) → find p (numbers_below n) ≡ None
  none_found n h = none_from 0 n (λ j a below. h j (omega arith))
