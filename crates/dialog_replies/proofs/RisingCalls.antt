-- Rising lists of numbers: what is found in them, and that the next one after each goes through all of them.
use Rattle.std.proofs.Common.{◌+◌, ◌<◌, ◌∙◌, ◌∷◌, ◌≡◌, ◌≤◌, ◌⊎◌, [], ℕ, Bool, List, None, Option, Some, ap, arith, cond, false, filter, find, inl, inr, refl}
use Rattle.std.proofs.Common.{subst, suc, sym, true, zero}
use Rattle.std.{proofs.lemmas.Bool.Decides.nat_tests, specs.List.range_with_len}
use Rattle.optimal_query.specs.Region.{is_after}

-- they rise, from this number on and below that one
abbrev pub Rises : ℕ → ℕ → List ℕ → Type 0
Rises from to [] = Unit {0}
Rises from to (x ∷ xs) = (from ≤ x) × (x < to) × Rises (x + 1) to xs

rises_from_less : (a b to : ℕ) (xs : List ℕ) → a ≤ b → Rises b to xs → Rises a to xs
rises_from_less a b to [] h r = tt
rises_from_less a b to (x ∷ xs) h r = (omega (arith, r.0), r.1, r.2)

range_rises : (a k : ℕ) → Rises a (a + k) (range_with_len a k)
range_rises a zero = tt
range_rises a (suc k) =
    let same : a + 1 + k ≡ a + suc k = omega arith in
    (omega arith, omega arith, subst (λ to. Rises (a + 1) to (range_with_len (a + 1) k)) same (range_rises (a + 1) k))

pub numbers_rise : (n : ℕ) → Rises 0 n (range_with_len 0 n)
numbers_rise n = let same : 0 + n ≡ n = omega arith in subst (λ to. Rises 0 to (range_with_len 0 n)) same (range_rises 0 n)

kept_rises : (b : Bool) (a to x : ℕ) (xs : List ℕ) → a ≤ x → x < to → Rises (x + 1) to xs → Rises a to (cond b (x ∷ xs) xs)
kept_rises true a to x xs h i r = (h, i, r)
kept_rises false a to x xs h i r = rises_from_less a (x + 1) to xs (omega arith) r

pub filter_rises : (p : ℕ → Bool) (a to : ℕ) (xs : List ℕ) → Rises a to xs → Rises a to (filter p xs)
filter_rises p a to [] r = tt
filter_rises p a to (x ∷ xs) r = kept_rises (p x) a to x (filter p xs) r.0 r.1 (filter_rises p (x + 1) to xs r.2)

-- what is found: the first one, or what is found among the others
found_by : (b : Bool) (x y : ℕ) (others : Option ℕ) → cond b (Some x) others ≡ Some y
    → ((b ≡ true) × (x ≡ y)) ⊎ ((b ≡ false) × (others ≡ Some y))
found_by true x y others h = inl (refl, (let e : x ≡ y = cc in e))
found_by false x y others h = inr (refl, h)

pub found_within : (p : ℕ → Bool) (a to : ℕ) (xs : List ℕ) (y : ℕ) → Rises a to xs → find p xs ≡ Some y → (a ≤ y) × (y < to)
found_within p a to [] y r h = absurd (let l : ⊥ = cc in l)
found_within p a to (x ∷ xs) y r h = elim (found_by (p x) x y (find p xs) h) [
  | inl here ↦ let same : x ≡ y = here.1 in (omega (arith, r.0), omega (arith, r.1))
  | inr later ↦ let within = found_within p (x + 1) to xs y r.2 later.1 in (omega (arith, r.0, within.0), within.1)
]

all_kept : (p : ℕ → Bool) (a to : ℕ) (xs : List ℕ) → Rises a to xs → ((y : ℕ) → a ≤ y → p y ≡ true) → filter p xs ≡ xs
all_kept p a to [] r h = refl
all_kept p a to (x ∷ xs) r h =
    let rest = all_kept p (x + 1) to xs r.2 (λ y later. h y (omega (arith, r.0))) in
    ap (λ (b : Bool). cond b (x ∷ filter p xs) (filter p xs)) (h x r.0) ∙ ap (λ (ys : List ℕ). x ∷ ys) rest

after_later : (before : Option ℕ) (x y : ℕ) → is_after before x ≡ true → x ≤ y → is_after before y ≡ true
after_later None x y h i = refl
after_later (Some b) x y h i = grind (arith, nat_tests)

not_after : (x y : ℕ) → x ≤ y → is_after (Some y) x ≡ false
not_after x y h = grind (arith, nat_tests)

after_one : (x y : ℕ) → x + 1 ≤ y → is_after (Some x) y ≡ true
after_one x y h = grind (arith, nat_tests)

skipped : (p : ℕ → Bool) (x : ℕ) (xs : List ℕ) → p x ≡ false → filter p (x ∷ xs) ≡ filter p xs
skipped p x xs h = ap (λ (b : Bool). cond b (x ∷ filter p xs) (filter p xs)) h

kept : (p : ℕ → Bool) (x : ℕ) (xs : List ℕ) → p x ≡ true → filter p (x ∷ xs) ≡ x ∷ filter p xs
kept p x xs h = ap (λ (b : Bool). cond b (x ∷ filter p xs) (filter p xs)) h

-- the next one, and those after it
pub next_is : (before : Option ℕ) (a to : ℕ) (xs : List ℕ) (y : ℕ) → Rises a to xs → find (is_after before) xs ≡ Some y
    → filter (is_after before) xs ≡ y ∷ filter (is_after (Some y)) xs
next_is before a to [] y r h = absurd (let l : ⊥ = cc in l)
next_is before a to (x ∷ xs) y r h = elim (found_by (is_after before x) x y (find (is_after before) xs) h) [
  | inl here ↦
      let left = kept (is_after before) x xs here.0
      ∙ ap (λ (ys : List ℕ). x ∷ ys) (all_kept (is_after before) (x + 1) to xs r.2 (λ z later. after_later before x z here.0 (omega arith))) in
      let right = skipped (is_after (Some x)) x xs (not_after x x (omega arith))
      ∙ all_kept (is_after (Some x)) (x + 1) to xs r.2 (λ z later. after_one x z later) in
      left ∙ ap (λ (ys : List ℕ). x ∷ ys) (sym right) ∙ ap (λ (z : ℕ). z ∷ filter (is_after (Some z)) (x ∷ xs)) here.1
  | inr later ↦
      let within = found_within (is_after before) (x + 1) to xs y r.2 later.1 in
      skipped (is_after before) x xs later.0 ∙ next_is before (x + 1) to xs y r.2 later.1
      ∙ ap (λ (ys : List ℕ). y ∷ ys) (sym (skipped (is_after (Some y)) x xs (not_after x y (omega (arith, within.0)))))
]

none_by : (b : Bool) (x : ℕ) (others : Option ℕ) → cond b (Some x) others ≡ None → (b ≡ false) × (others ≡ None)
none_by true x others h = absurd (let l : ⊥ = cc in l)
none_by false x others h = (refl, h)

-- none is left
pub none_is : (p : ℕ → Bool) (xs : List ℕ) → find p xs ≡ None → filter p xs ≡ []
none_is p [] h = refl
none_is p (x ∷ xs) h = let parts = none_by (p x) x (find p xs) h in skipped p x xs parts.0 ∙ none_is p xs parts.1

pub all_after_none : (xs : List ℕ) → filter (is_after None) xs ≡ xs
all_after_none [] = refl
all_after_none (x ∷ xs) = ap (λ (ys : List ℕ). x ∷ ys) (all_after_none xs)
