-- The last of the first numbers that passes a test, and the last of a list with one more element.
use Rattle.std.proofs.Common.{◌++◌, ◌+◌, ◌<◌, ◌∙◌, ◌∷◌, ◌≡◌, [], ℕ, Bool, List, None, Option, Some, ap, arith, cond, false, find, inl, inr, refl, suc, sym}
use Rattle.std.proofs.{Common.true, Common.zero, lemmas.Bool.cases_eq, lemmas.Bool.cases_order, lemmas.Bool.true≢false, lemmas.List.reverse-append}
use Rattle.std.specs.List.{range_with_len}
use Rattle.answer_book.specs.Numbers.{last_of, last_where, numbers_below}

-- the last of a list with one more element is that one
pub last_of_more : {X : Type 0} (xs : List X) (x : X) → last_of (xs ++ x ∷ []) ≡ Some x
last_of_more xs x = rw (reverse-append xs (x ∷ [])) refl

range_more : (a n j : ℕ) → a + n ≡ j → range_with_len a (suc n) ≡ range_with_len a n ++ j ∷ []
range_more a zero j e = let h : a ≡ j = omega arith in ap (λ x. x ∷ []) h
range_more a (suc n) j e = ap (λ l. a ∷ l) (range_more (a + 1) n j (omega arith))

pub last_where_suc : (p : ℕ → Bool) (n : ℕ) → last_where p (numbers_below (suc n)) ≡ cond (p n) (Some n) (last_where p (numbers_below n))
last_where_suc p n = ap (last_where p) (range_more 0 n n (omega arith)) ∙ ap (find p) (reverse-append (numbers_below n) (n ∷ []))

-- the greatest number below n that passes
pub record IsLast (p : ℕ → Bool) (n number : ℕ) : Type 0 where
  pub inside : number < n
  pub passes : p number ≡ true
  pub none_later : (other : ℕ) → number < other → other < n → p other ≡ false

some_injective : (a b : ℕ) → Some a ≡ Some b → a ≡ b
some_injective a b h = cc

last_case : (p : ℕ → Bool) (n number : ℕ) (b : Bool) → p n ≡ b → cond b (Some n) (last_where p (numbers_below n)) ≡ Some number
    → (last_where p (numbers_below n) ≡ Some number → IsLast p n number) → IsLast p (suc n) number
last_case p n number true is h before =
    let e : n ≡ number = some_injective n number h in
    record { inside = omega arith; passes = ap p (sym e) ∙ is; none_later = λ other later inside. absurd (omega arith) }
last_case p n number false is h before =
    let earlier = before h in
    record {
      inside = let l : number < n = earlier.inside in omega arith;
      passes = earlier.passes;
      none_later = λ other later inside. elim (cases_eq other n) [
        | inl same ↦ ap p same ∙ is
        | inr differs ↦ earlier.none_later other later (omega arith)
      ];
    }

pub last_where_is : (p : ℕ → Bool) (n number : ℕ) → last_where p (numbers_below n) ≡ Some number → IsLast p n number
last_where_is p zero number h = absurd (let l : ⊥ = cc in l)
last_where_is p (suc n) number h = last_case p n number (p n) refl (sym (last_where_suc p n) ∙ h) (λ e. last_where_is p n number e)

none_case : (p : ℕ → Bool) (n : ℕ) (b : Bool) → p n ≡ b → cond b (Some n) (last_where p (numbers_below n)) ≡ None
    → (p n ≡ false) × (last_where p (numbers_below n) ≡ None)
none_case p n true is h = absurd (let l : ⊥ = cc in l)
none_case p n false is h = (is, h)

pub none_passes_where : (p : ℕ → Bool) (n : ℕ) → last_where p (numbers_below n) ≡ None → (number : ℕ) → number < n → p number ≡ false
none_passes_where p zero h number inside = absurd (omega arith)
none_passes_where p (suc n) h number inside =
    let parts = none_case p n (p n) refl (sym (last_where_suc p n) ∙ h) in
    elim (cases_eq number n) [
      | inl same ↦ ap p same ∙ parts.0
      | inr differs ↦ none_passes_where p n parts.1 number (omega arith)
    ]

by_option : (p : ℕ → Bool) (n number : ℕ) → IsLast p n number → (o : Option ℕ) → last_where p (numbers_below n) ≡ o
    → last_where p (numbers_below n) ≡ Some number
by_option p n number is None h = absurd (true≢false (sym is.passes ∙ none_passes_where p n h number is.inside))
by_option p n number is (Some other) h =
    let theirs = last_where_is p n other h in
    h ∙ ap Some (elim (cases_order other number) [
      | inl same ↦ same
      | inr (inl less) ↦ absurd (true≢false (sym is.passes ∙ theirs.none_later number less is.inside))
      | inr (inr more) ↦ absurd (true≢false (sym theirs.passes ∙ is.none_later other more theirs.inside))
    ])

-- there is only one last
pub last_where_from : (p : ℕ → Bool) (n number : ℕ) → IsLast p n number → last_where p (numbers_below n) ≡ Some number
last_where_from p n number is = by_option p n number is (last_where p (numbers_below n)) refl

-- and none where none passes
pub no_last_where : (p : ℕ → Bool) (n : ℕ) → ((number : ℕ) → number < n → p number ≡ false) → last_where p (numbers_below n) ≡ None
no_last_where p zero none = refl
no_last_where p (suc n) none =
    last_where_suc p n ∙ ap (λ b. cond b (Some n) (last_where p (numbers_below n))) (none n (omega arith))
    ∙ no_last_where p n (λ number h. none number (omega arith))

-- tests that agree on the numbers have the same last one
pub last_where_same : (p q : ℕ → Bool) (n : ℕ) → ((number : ℕ) → number < n → p number ≡ q number)
    → last_where p (numbers_below n) ≡ last_where q (numbers_below n)
last_where_same p q zero agree = refl
last_where_same p q (suc n) agree =
    last_where_suc p n ∙ ap (λ b. cond b (Some n) (last_where p (numbers_below n))) (agree n (omega arith))
    ∙ ap (λ o. cond (q n) (Some n) o) (last_where_same p q n (λ number h. agree number (omega arith)))
    ∙ sym (last_where_suc q n)
