-- Sums over the numbers below n.
use Rattle.std.proofs.Common.{◌++◌, ◌+◌, ◌<◌, ◌∙◌, ◌∷◌, ◌≡◌, ◌≢◌, ◌≤◌, [], ℕ, Bool, List, ap, arith, cond, false, filter, get_or, inl, inr, refl, suc, sum_by}
use Rattle.std.{proofs.Common.sym, proofs.Common.true, proofs.Common.zero, proofs.Common.zero-add, specs.List.list_any, specs.List.range_with_len}
use Rattle.std.proofs.lemmas.{Bool.cases_eq, List.FromFn.get_or-range_with_len, List.FromFn.length-range_with_len}
use Rattle.std.proofs.lemmas.List.{Elements.filter-append, Folds.Any-from_list_any, Folds.list_any_at, Sums.sum_by-append, Sums.sum_by_push}

-- the sum of f over the numbers below n
abbrev pub total : (ℕ → ℕ) → ℕ → ℕ
total f zero = 0
total f (suc n) = total f n + f n

range_more : (a n j : ℕ) → a + n ≡ j → range_with_len a (suc n) ≡ range_with_len a n ++ j ∷ []
range_more a zero j e = let h : a ≡ j = omega arith in ap (λ x. x ∷ []) h
range_more a (suc n) j e = ap (λ l. a ∷ l) (range_more (a + 1) n j (omega arith))

pub sum_of_numbers : (f : ℕ → ℕ) (n : ℕ) → sum_by f (range_with_len 0 n) ≡ total f n
sum_of_numbers f zero = refl
sum_of_numbers f (suc n) =
    ap (λ (l : List ℕ). sum_by f l) (range_more 0 n n (omega arith)) ∙ sum_by_push f (range_with_len 0 n) n ∙ ap (λ s. s + f n) (sum_of_numbers f n)

one_filtered : (f : ℕ → ℕ) (x : ℕ) (kept : Bool) → sum_by f (cond kept (x ∷ []) []) ≡ cond kept (f x) 0
one_filtered f x true = zero-add (f x)
one_filtered f x false = refl

pub sum_of_filtered : (p : ℕ → Bool) (f : ℕ → ℕ) (n : ℕ) → sum_by f (filter p (range_with_len 0 n)) ≡ total (λ k. cond (p k) (f k) 0) n
sum_of_filtered p f zero = refl
sum_of_filtered p f (suc n) =
    ap (λ (l : List ℕ). sum_by f (filter p l)) (range_more 0 n n (omega arith))
    ∙ ap (λ (l : List ℕ). sum_by f l) (filter-append p (range_with_len 0 n) (n ∷ []))
    ∙ sum_by-append f (filter p (range_with_len 0 n)) (filter p (n ∷ []))
    ∙ ap (λ s. s + sum_by f (filter p (n ∷ []))) (sum_of_filtered p f n)
    ∙ ap (λ s. total (λ k. cond (p k) (f k) 0) n + s) (one_filtered f n (p n))

pub total_same : (f g : ℕ → ℕ) (n : ℕ) → ((k : ℕ) → k < n → f k ≡ g k) → total f n ≡ total g n
total_same f g zero h = refl
total_same f g (suc n) h =
    let before = total_same f g n (λ k inside. h k (omega arith)) in
    let here = h n (omega arith) in
    omega arith

pub total_none : (f : ℕ → ℕ) (n : ℕ) → ((k : ℕ) → k < n → f k ≡ 0) → total f n ≡ 0
total_none f zero h = refl
total_none f (suc n) h =
    let before = total_none f n (λ k inside. h k (omega arith)) in
    let here = h n (omega arith) in
    omega arith

pub total_below : (f g : ℕ → ℕ) (n : ℕ) → ((k : ℕ) → k < n → f k ≤ g k) → total f n ≤ total g n
total_below f g zero h = omega arith
total_below f g (suc n) h =
    let before = total_below f g n (λ k inside. h k (omega arith)) in
    let here = h n (omega arith) in
    omega arith

pub total_of_few : (f : ℕ → ℕ) (n : ℕ) → ((k : ℕ) → k < n → f k ≤ 1) → total f n ≤ n
total_of_few f zero h = omega arith
total_of_few f (suc n) h =
    let before = total_of_few f n (λ k inside. h k (omega arith)) in
    let here = h n (omega arith) in
    omega arith

-- where two functions differ at one place only
pub total_but_one : (f g : ℕ → ℕ) (n place : ℕ) → place < n → ((k : ℕ) → k < n → (k ≡ place → ⊥) → f k ≡ g k) → total f n + g place ≡ total g n + f place
total_but_one f g zero place inside h = absurd (omega arith)
total_but_one f g (suc n) place inside h = elim (cases_eq place n) [
  | inl e ↦
      let same = total_same f g n (λ k below. h k (omega arith) (λ at. omega arith)) in
      let one = ap f e in
      let other = ap g e in
      omega arith
  | inr other ↦
      let apart : place ≢ n = other in
      let before = total_but_one f g n place (omega arith) (λ k below. h k (omega arith)) in
      let here = h n (omega arith) (λ at. other (sym at)) in
      omega arith
]

pub total_of_one : (f : ℕ → ℕ) (n place : ℕ) → place < n → ((k : ℕ) → k < n → (k ≡ place → ⊥) → f k ≡ 0) → total f n ≡ f place
total_of_one f n place inside h =
    let swapped = total_but_one f (λ _. 0) n place inside h in
    let none = total_none (λ _. 0) n (λ _ _. refl) in
    omega arith

pub term_in_total : (f : ℕ → ℕ) (n place : ℕ) → place < n → f place ≤ total f n
term_in_total f zero place inside = absurd (omega arith)
term_in_total f (suc n) place inside = elim (cases_eq place n) [
  | inl e ↦ let same = ap f e in omega arith
  | inr other ↦
      let apart : place ≢ n = other in
      let before = term_in_total f n place (omega arith) in
      omega arith
]

total_plus : (f g : ℕ → ℕ) (n : ℕ) → total (λ k. f k + g k) n ≡ total f n + total g n
total_plus f g zero = refl
total_plus f g (suc n) = let before = total_plus f g n in omega arith

-- a sum of sums may be taken in either order
pub total_swap : (f : ℕ → ℕ → ℕ) (m n : ℕ) → total (λ i. total (λ j. f i j) n) m ≡ total (λ j. total (λ i. f i j) m) n
total_swap f zero n = sym (total_none (λ _. 0) n (λ _ _. refl))
total_swap f (suc m) n = ap (λ s. s + total (λ j. f m j) n) (total_swap f m n) ∙ sym (total_plus (λ j. total (λ i. f i j) m) (λ j. f m j) n)

-- a test of some number below n
pub any_number : (p : ℕ → Bool) (n k : ℕ) → k < n → p k ≡ true → list_any p (range_with_len 0 n) ≡ true
any_number p n k inside h =
    let long = length-range_with_len 0 n in
    let at : get_or (range_with_len 0 n) k 0 ≡ k = get_or-range_with_len 0 n k 0 inside ∙ zero-add k in
    list_any_at p (range_with_len 0 n) k 0 (omega arith) (ap p at ∙ h)

pub some_number : (p : ℕ → Bool) (n : ℕ) → list_any p (range_with_len 0 n) ≡ true → (k : ℕ) × (k < n) × (p k ≡ true)
some_number p n h =
    let found = Any-from_list_any p (range_with_len 0 n) h in
    let long = length-range_with_len 0 n in
    let inside : found.0 < n = omega (arith, found.2) in
    let at : found.1 ≡ found.0 = sym found.3 ∙ get_or-range_with_len 0 n found.0 found.1 inside ∙ zero-add found.0 in
    (found.0, inside, ap p (sym at) ∙ found.4)
