-- The first numbers that pass a test: which they are, the first of them, whether there is one, and how many.
use Rattle.std.proofs.Common.{◌&&◌, ◌++◌, ◌+◌, ◌<◌, ◌||◌, ◌∙◌, ◌∷◌, ◌≡◌, ◌≤◌, [], ℕ, All, Bool, Contains, List, None, Option, Some, ap, append-nil, arith, cond}
use Rattle.std.proofs.Common.{count_by, false, filter, find, get_or, inl, inr, length, length-append, refl, suc, sym, true, zero}
use Rattle.std.{proofs.Math.Bool.or-false, specs.List.list_any, specs.List.range_with_len}
use Rattle.std.proofs.lemmas.{Bool.cases_eq, Bool.cases_order, Bool.false≢true, Bool.true≢false, List.Folds.list_any_at, List.Folds.list_any_none}
use Rattle.std.proofs.lemmas.{List.FromFn.get_or-range_with_len, List.FromFn.length-range_with_len, List.Recursion.or_push, List.Sums.sum_by-cons}
use Rattle.std.proofs.lemmas.List.Elements.{All-contains, All-filter, All-from_get_or, Contains-append_left, Contains-push, filter-append, filter_passes}
use Rattle.answer_book.specs.Numbers.{numbers_below}

range_more : (a n j : ℕ) → a + n ≡ j → range_with_len a (suc n) ≡ range_with_len a n ++ j ∷ []
range_more a zero j e = let h : a ≡ j = omega arith in ap (λ x. x ∷ []) h
range_more a (suc n) j e = ap (λ l. a ∷ l) (range_more (a + 1) n j (omega arith))

pub numbers_suc : (n : ℕ) → numbers_below (suc n) ≡ numbers_below n ++ n ∷ []
numbers_suc n = range_more 0 n n (omega arith)

-- tests that pass together are the same
pub same_test : (a b : Bool) → (a ≡ true → b ≡ true) → (b ≡ true → a ≡ true) → a ≡ b
same_test true b to from = sym (to refl)
same_test false true to from = from refl
same_test false false to from = refl

-- what passes one test and then another passes both
pub filter_filter : {X : Type 0} (p q : X → Bool) (xs : List X) → filter p (filter q xs) ≡ filter (λ x. q x && p x) xs
filter_filter p q [] = refl
filter_filter p q (x ∷ xs) =
    elim (q x) as (λ b. filter p (cond b (x ∷ filter q xs) (filter q xs)) ≡ cond (b && p x) (x ∷ filter (λ y. q y && p y) xs) (filter (λ y. q y && p y) xs)) [
      | true ↦ elim (p x) as (λ b. cond b (x ∷ filter p (filter q xs)) (filter p (filter q xs))
          ≡ cond b (x ∷ filter (λ y. q y && p y) xs) (filter (λ y. q y && p y) xs)) [
            | true ↦ ap (λ l. x ∷ l) (filter_filter p q xs)
            | false ↦ filter_filter p q xs
          ]
      | false ↦ filter_filter p q xs
    ]

pub find_filter : (p q : ℕ → Bool) (xs : List ℕ) → find p (filter q xs) ≡ find (λ x. q x && p x) xs
find_filter p q [] = refl
find_filter p q (x ∷ xs) =
    elim (q x) as (λ b. find p (cond b (x ∷ filter q xs) (filter q xs)) ≡ cond (b && p x) (Some x) (find (λ y. q y && p y) xs)) [
      | true ↦ ap (λ o. cond (p x) (Some x) o) (find_filter p q xs)
      | false ↦ find_filter p q xs
    ]

pub filter_suc : (p : ℕ → Bool) (n : ℕ) → filter p (numbers_below (suc n)) ≡ filter p (numbers_below n) ++ cond (p n) (n ∷ []) []
filter_suc p n = ap (filter p) (numbers_suc n) ∙ filter-append p (numbers_below n) (n ∷ [])

-- tests that agree on the numbers keep the same of them
pub filter_same : (p q : ℕ → Bool) (n : ℕ) → ((number : ℕ) → number < n → p number ≡ q number) → filter p (numbers_below n) ≡ filter q (numbers_below n)
filter_same p q zero agree = refl
filter_same p q (suc n) agree =
    filter_suc p n ∙ ap (λ b. filter p (numbers_below n) ++ cond b (n ∷ []) []) (agree n (omega arith))
    ∙ ap (λ l. l ++ cond (q n) (n ∷ []) []) (filter_same p q n (λ number h. agree number (omega arith)))
    ∙ sym (filter_suc q n)

pub numbers_inside : (n : ℕ) → All (λ number. number < n) (numbers_below n)
numbers_inside n = All-from_get_or (λ number. number < n) (numbers_below n) 0
    (λ i h. let inside : i < n = omega (arith, h, length-range_with_len 0 n) in omega (arith, inside, get_or-range_with_len 0 n i 0 inside))

-- a number among those that pass
pub passes_of_contains : (p : ℕ → Bool) (n number : ℕ) → Contains (filter p (numbers_below n)) number → (number < n) × (p number ≡ true)
passes_of_contains p n number h = (
  All-contains (λ x. x < n) (filter p (numbers_below n)) number (All-filter p (λ x. x < n) (numbers_below n) (numbers_inside n)) h,
  All-contains (λ x. p x ≡ true) (filter p (numbers_below n)) number (filter_passes p (numbers_below n)) h,
)

here : (p : ℕ → Bool) (n : ℕ) (b : Bool) → b ≡ true → Contains (filter p (numbers_below n) ++ cond b (n ∷ []) []) n
here p n true passes = Contains-push (filter p (numbers_below n)) n
here p n false passes = absurd (false≢true passes)

-- a number that passes is among them
pub contains_of_passes : (p : ℕ → Bool) (n number : ℕ) → number < n → p number ≡ true → Contains (filter p (numbers_below n)) number
contains_of_passes p zero number inside passes = absurd (omega arith)
contains_of_passes p (suc n) number inside passes =
    let e = filter_suc p n in
    elim (cases_eq number n) [
      | inl same ↦ rw (e, same) (here p n (p n) (ap p (sym same) ∙ passes))
      | inr differs ↦ rw e (Contains-append_left (filter p (numbers_below n)) (cond (p n) (n ∷ []) []) number
          (contains_of_passes p n number (omega arith) passes))
    ]

-- whether some number passes
pub any_below : (p : ℕ → Bool) (n number : ℕ) → number < n → p number ≡ true → list_any p (numbers_below n) ≡ true
any_below p n number inside passes =
    list_any_at p (numbers_below n) number 0 (omega (arith, length-range_with_len 0 n)) (ap p (get_or-range_with_len 0 n number 0 inside
    ∙ (let e : 0 + number ≡ number = omega arith in e)) ∙ passes)

pub none_below : (p : ℕ → Bool) (n : ℕ) → ((number : ℕ) → number < n → p number ≡ false) → list_any p (numbers_below n) ≡ false
none_below p n none =
    list_any_none p (numbers_below n) (All-from_get_or (λ number. p number ≡ false) (numbers_below n) 0 (λ i h.
    let inside : i < n = omega (arith, length-range_with_len 0 n) in
    ap p (get_or-range_with_len 0 n i 0 inside ∙ (let e : 0 + i ≡ i = omega arith in e)) ∙ none i inside))

any_suc : (p : ℕ → Bool) (n : ℕ) → list_any p (numbers_below (suc n)) ≡ (list_any p (numbers_below n) || p n)
any_suc p n = ap (list_any p) (numbers_suc n) ∙ or_push (list_any p) p refl (λ x xs. refl) (numbers_below n) n

found_case : (p : ℕ → Bool) (n : ℕ) (b : Bool) → p n ≡ b → (list_any p (numbers_below n) || b) ≡ true
    → (list_any p (numbers_below n) ≡ true → (number : ℕ) × (number < n) × (p number ≡ true))
    → (number : ℕ) × (number < suc n) × (p number ≡ true)
found_case p n true is h before = (n, omega arith, is)
found_case p n false is h before =
    let there = before (sym (or-false (list_any p (numbers_below n))) ∙ h) in
    (there.0, (let l : there.0 < n = there.1 in omega arith), there.2)

-- some number passes
pub one_found : (p : ℕ → Bool) (n : ℕ) → list_any p (numbers_below n) ≡ true → (number : ℕ) × (number < n) × (p number ≡ true)
one_found p zero h = absurd (false≢true h)
one_found p (suc n) h = found_case p n (p n) refl (sym (any_suc p n) ∙ h) (λ e. one_found p n e)

-- one for a test that passes
abbrev pub unit_of : Bool → ℕ
unit_of b = cond b 1 0

length_one : (b : Bool) (n : ℕ) → length (cond b (n ∷ []) []) ≡ unit_of b
length_one true n = refl
length_one false n = refl

length_suc : (p : ℕ → Bool) (n : ℕ) → length (filter p (numbers_below (suc n))) ≡ length (filter p (numbers_below n)) + unit_of (p n)
length_suc p n =
    ap length (filter_suc p n) ∙ length-append (filter p (numbers_below n)) (cond (p n) (n ∷ []) [])
    ∙ ap (λ k. length (filter p (numbers_below n)) + k) (length_one (p n) n)

-- one test passes one number more than the other
pub one_more : (p q : ℕ → Bool) (number n : ℕ) → number < n → p number ≡ true → q number ≡ false
    → ((other : ℕ) → other < n → (other ≡ number → ⊥) → p other ≡ q other)
    → length (filter p (numbers_below n)) ≡ length (filter q (numbers_below n)) + 1
one_more p q number zero inside passes fails agree = absurd (omega arith)
one_more p q number (suc n) inside passes fails agree = elim (cases_eq number n) [
  | inl same ↦
      let here : unit_of (p n) ≡ 1 = ap unit_of (ap p (sym same) ∙ passes) in
      let not_here : unit_of (q n) ≡ 0 = ap unit_of (ap q (sym same) ∙ fails) in
      let before = ap length (filter_same p q n (λ other h. agree other (omega arith) (λ e. absurd (let l : ⊥ = omega arith in l)))) in
      omega (arith, length_suc p n, length_suc q n, here, not_here, before)
  | inr differs ↦
      let here = ap unit_of (agree n (omega arith) (λ e. differs (sym e))) in
      let before = one_more p q number n (omega arith) passes fails (λ other h. agree other (omega arith)) in
      omega (arith, length_suc p n, length_suc q n, here, before)
]

-- the first number that passes
pub record IsFirstFrom (p : ℕ → Bool) (from n number : ℕ) : Type 0 where
  pub from_here : from ≤ number
  pub inside : number < from + n
  pub passes : p number ≡ true
  pub none_earlier : (other : ℕ) → from ≤ other → other < number → p other ≡ false

some_injective : (a b : ℕ) → Some a ≡ Some b → a ≡ b
some_injective a b h = cc

first_case : (p : ℕ → Bool) (from n number : ℕ) (b : Bool) → p from ≡ b → cond b (Some from) (find p (range_with_len (from + 1) n)) ≡ Some number
    → (find p (range_with_len (from + 1) n) ≡ Some number → IsFirstFrom p (from + 1) n number) → IsFirstFrom p from (suc n) number
first_case p from n number true is h later =
    let e : from ≡ number = some_injective from number h in
    record { from_here = omega arith; inside = omega arith; passes = ap p (sym e) ∙ is; none_earlier = λ other a b. absurd (omega arith) }
first_case p from n number false is h later =
    let rest = later h in
    record {
      from_here = let l : from + 1 ≤ number = rest.from_here in omega arith;
      inside = let l : number < from + 1 + n = rest.inside in omega arith;
      passes = rest.passes;
      none_earlier = λ other a b. elim (cases_eq other from) [
        | inl same ↦ ap p same ∙ is
        | inr differs ↦ rest.none_earlier other (omega arith) b
      ];
    }

pub first_is : (p : ℕ → Bool) (from n number : ℕ) → find p (range_with_len from n) ≡ Some number → IsFirstFrom p from n number
first_is p from zero number h = absurd (let l : ⊥ = cc in l)
first_is p from (suc n) number h = first_case p from n number (p from) refl h (λ e. first_is p (from + 1) n number e)

no_unit : (b : Bool) → unit_of b ≡ 0 → b ≡ false
no_unit true h = absurd (let l : ⊥ = omega arith in l)
no_unit false h = refl

pub nothing_from : (xs : List ℕ) → length xs ≡ 0 → xs ≡ []
nothing_from [] h = refl
nothing_from (x ∷ xs) h = absurd (let l : ⊥ = omega arith in l)

-- where none of the numbers passes
pub none_passes : (p : ℕ → Bool) (n number : ℕ) → filter p (numbers_below n) ≡ [] → number < n → p number ≡ false
none_passes p zero number h inside = absurd (omega arith)
none_passes p (suc n) number h inside =
    let both : 0 ≡ length (filter p (numbers_below n)) + unit_of (p n) = sym (ap length h) ∙ length_suc p n in
    elim (cases_eq number n) [
      | inl same ↦ ap p same ∙ no_unit (p n) (omega arith)
      | inr differs ↦ none_passes p n number (nothing_from (filter p (numbers_below n)) (omega arith)) (omega arith)
    ]

-- a test that some element passes counts it
pub counts_one : (p : ℕ → Bool) (xs : List ℕ) (k d : ℕ) → k < length xs → p (get_or xs k d) ≡ true → 1 ≤ count_by p xs
counts_one p [] k d h passes = absurd (omega arith)
counts_one p (x ∷ xs) zero d h passes = omega (arith, sum_by-cons (λ y. cond (p y) 1 0) x xs, ap unit_of passes)
counts_one p (x ∷ xs) (suc k) d h passes = omega (arith, sum_by-cons (λ y. cond (p y) 1 0) x xs, counts_one p xs k d (omega arith) passes)

none_found_case : (p : ℕ → Bool) (from : ℕ) (o : Option ℕ) (b : Bool) → p from ≡ b → cond b (Some from) o ≡ None → (p from ≡ false) × (o ≡ None)
none_found_case p from o true is h = absurd (let l : ⊥ = cc in l)
none_found_case p from o false is h = (is, h)

none_found : (p : ℕ → Bool) (from n : ℕ) → find p (range_with_len from n) ≡ None → (number : ℕ) → from ≤ number → number < from + n → p number ≡ false
none_found p from zero h number after before = absurd (omega arith)
none_found p from (suc n) h number after before =
    let parts = none_found_case p from (find p (range_with_len (from + 1) n)) (p from) refl h in
    elim (cases_eq number from) [
      | inl same ↦ ap p same ∙ parts.0
      | inr differs ↦ none_found p (from + 1) n parts.1 number (omega arith) (omega arith)
    ]

first_by : (p : ℕ → Bool) (from n number : ℕ) → IsFirstFrom p from n number → (o : Option ℕ) → find p (range_with_len from n) ≡ o
    → find p (range_with_len from n) ≡ Some number
first_by p from n number is None h = absurd (true≢false (sym is.passes ∙ none_found p from n h number is.from_here is.inside))
first_by p from n number is (Some other) h =
    let theirs = first_is p from n other h in
    h ∙ ap Some (elim (cases_order other number) [
      | inl same ↦ same
      | inr (inl less) ↦ absurd (true≢false (sym theirs.passes ∙ is.none_earlier other theirs.from_here less))
      | inr (inr more) ↦ absurd (true≢false (sym is.passes ∙ theirs.none_earlier number is.from_here more))
    ])

-- there is only one first
pub first_from : (p : ℕ → Bool) (from n number : ℕ) → IsFirstFrom p from n number → find p (range_with_len from n) ≡ Some number
first_from p from n number is = first_by p from n number is (find p (range_with_len from n)) refl

-- where none passes nothing is kept
pub none_filtered : (p : ℕ → Bool) (n : ℕ) → ((number : ℕ) → number < n → p number ≡ false) → filter p (numbers_below n) ≡ []
none_filtered p zero none = refl
none_filtered p (suc n) none =
    filter_suc p n ∙ ap (λ b. filter p (numbers_below n) ++ cond b (n ∷ []) []) (none n (omega arith))
    ∙ append-nil (filter p (numbers_below n)) ∙ none_filtered p n (λ number h. none number (omega arith))

pub none_to_find : (p : ℕ → Bool) (from n : ℕ) → ((number : ℕ) → from ≤ number → number < from + n → p number ≡ false) → find p (range_with_len from n) ≡ None
none_to_find p from zero none = refl
none_to_find p from (suc n) none =
    ap (λ b. cond b (Some from) (find p (range_with_len (from + 1) n))) (none from (omega arith) (omega arith))
    ∙ none_to_find p (from + 1) n (λ number h inside. none number (omega arith) (omega arith))
