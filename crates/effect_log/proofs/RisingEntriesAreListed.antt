-- A map's entries by rising key are what it gives at each key, one key after another.
use Rattle.std.proofs.Common.{◌+◌, ◌==◌, ◌∙◌, ◌∷◌, ◌≡◌, ◌≢◌, ◌≤◌, [], ℕ, List, None, Option, Some, ap, arith, cond, false, inl, inr, length, refl, subst, suc}
use Rattle.std.proofs.Common.{sym, true, zero}
use Rattle.std.proofs.lemmas.{Bool.Decides.eqb_tells, Bool.Decides.nat_tests, Map.Keys.below_from_sorted, Map.Keys.sorted_tail}
use Rattle.std.specs.{BTreeMap.is_at, Cmp.unsigned_tied, Map.keys_of, Map.lookup, Option.option_map, Ordering.nat_cmp}
use Rattle.std.specs.List.{cons_option, filter_map, range_with_len, Sorted.IsStrictlySortedBy}
use Rattle.cell_value.specs.Effects.{listed}

module _ {X : Type 0} where
  -- the first key, if there is one, is this one or later
  abbrev IsFrom : ℕ → List (ℕ × X) → Type 0
  IsFrom a [] = Unit {0}
  IsFrom a (e ∷ es) = a ≤ e.0

  abbrev pairs : (ℕ → Option X) → ℕ → ℕ → List (ℕ × X)
  pairs f a n = filter_map (λ q. option_map (λ x. (q, x)) (f q)) (range_with_len a n)

  rest_from : (e : ℕ × X) (es : List (ℕ × X)) → IsStrictlySortedBy nat_cmp (keys_of (e ∷ es)) → IsFrom (e.0 + 1) es
  rest_from e [] sorted = tt
  rest_from e (g ∷ es) sorted = let rises = below_from_sorted (keys_of (e ∷ g ∷ es)) 0 1 0 sorted (omega arith) (omega arith) in omega arith

  at_other : (q : ℕ) (e : ℕ × X) (es : List (ℕ × X)) → q ≢ e.0 → lookup (is_at (nat_cmp q)) (e ∷ es) ≡ lookup (is_at (nat_cmp q)) es
  at_other q e es other = let differs : (q == e.0) ≡ false = grind (arith, nat_tests) in
      ap (λ b. cond b (Some e.1) (lookup (is_at (nat_cmp q)) es)) (unsigned_tied q e.0 ∙ differs)

  at_key : (q : ℕ) (e : ℕ × X) (es : List (ℕ × X)) → q ≡ e.0 → lookup (is_at (nat_cmp q)) (e ∷ es) ≡ Some e.1
  at_key q e es same = let is : (q == e.0) ≡ true = grind (arith, nat_tests) in
      ap (λ b. cond b (Some e.1) (lookup (is_at (nat_cmp q)) es)) (unsigned_tied q e.0 ∙ is)

  none_before : (a : ℕ) (es : List (ℕ × X)) → IsStrictlySortedBy nat_cmp (keys_of es) → IsFrom (a + 1) es → lookup (is_at (nat_cmp a)) es ≡ None
  none_before a [] sorted from = refl
  none_before a (e ∷ es) sorted from =
      let later : a + 1 ≤ e.0 = from in
      let other : a ≢ e.0 = omega arith in
      at_other a e es other ∙ none_before a es (sorted_tail nat_cmp e.0 (keys_of es) sorted)
      (from_more (e.0 + 1) (a + 1) es (omega arith) (rest_from e es sorted))
    where
      from_more : (b c : ℕ) (fs : List (ℕ × X)) → c ≤ b → IsFrom b fs → IsFrom c fs
      from_more b c [] l h = tt
      from_more b c (f ∷ fs) l h = omega arith

  from_next : (a : ℕ) (e : ℕ × X) (es : List (ℕ × X)) → e.0 ≡ a → IsStrictlySortedBy nat_cmp (keys_of (e ∷ es)) → IsFrom (a + 1) es
  from_next a e es same sorted = subst (λ k. IsFrom (k + 1) es) same (rest_from e es sorted)

  pub rising_entries : (n a : ℕ) (es : List (ℕ × X)) (f : ℕ → Option X) → IsStrictlySortedBy nat_cmp (keys_of es) → IsFrom a es
      → ((q : ℕ) → a ≤ q → lookup (is_at (nat_cmp q)) es ≡ f q) → ((q : ℕ) → a + n ≤ q → f q ≡ None) → es ≡ pairs f a n
  rising_entries zero a [] f sorted from same none = refl
  rising_entries zero a (e ∷ es) f sorted from same none =
      let later : a ≤ e.0 = from in
      let some = same e.0 later in
      let there = at_key e.0 e es refl in
      let gone = none e.0 (omega arith) in
      cc
  rising_entries (suc n) a [] f sorted from same none =
      let gone : None ≡ f a = same a (omega arith) in
      let rest = rising_entries n (a + 1) [] f sorted tt (λ q l. same q (omega arith)) (λ q l. none q (omega arith)) in
      rest ∙ ap (λ o. cons_option (option_map (λ x. (a, x)) o) (pairs f (a + 1) n)) gone
  rising_entries (suc n) a (e ∷ es) f sorted from same none = elim (eqb_tells e.0 a) [
    | inl h ↦
        let rest = rising_entries n (a + 1) es f (sorted_tail nat_cmp e.0 (keys_of es) sorted) (from_next a e es h.1 sorted)
        (λ q l. let other : q ≢ e.0 = omega arith in sym (at_other q e es other) ∙ same q (omega arith)) (λ q l. none q (omega arith)) in
        let here : Some e.1 ≡ f a = sym (at_key a e es (sym h.1)) ∙ same a (omega arith) in
        ap (λ fs. e ∷ fs) rest ∙ ap (λ k. (k, e.1) ∷ pairs f (a + 1) n) h.1
        ∙ ap (λ o. cons_option (option_map (λ x. (a, x)) o) (pairs f (a + 1) n)) here
    | inr h ↦
        let later : a ≤ e.0 = from in
        let other : e.0 ≢ a = h.1 in
        let after : IsFrom (a + 1) (e ∷ es) = omega arith in
        let rest = rising_entries n (a + 1) (e ∷ es) f sorted after (λ q l. same q (omega arith)) (λ q l. none q (omega arith)) in
        let gone : None ≡ f a = sym (none_before a (e ∷ es) sorted after) ∙ same a (omega arith) in
        rest ∙ ap (λ o. cons_option (option_map (λ x. (a, x)) o) (pairs f (a + 1) n)) gone
  ]

  length_pairs : (n a : ℕ) (f : ℕ → Option X) → length (pairs f a n) ≤ n
  length_pairs zero a f = omega arith
  length_pairs (suc n) a f = let rest = length_pairs n (a + 1) f in
      elim (f a) as (λ o. length (cons_option (option_map (λ x. (a, x)) o) (pairs f (a + 1) n)) ≤ suc n) [
        | Some x ↦ omega arith
        | None ↦ omega arith
      ]

  -- the same of all addresses
  pub rising_is_listed : (es : List (ℕ × X)) (f : ℕ → Option X) → IsStrictlySortedBy nat_cmp (keys_of es) → ((q : ℕ) → lookup (is_at (nat_cmp q)) es ≡ f q)
      → ((q : ℕ) → 1048576 ≤ q → f q ≡ None) → es ≡ listed f
  unfolding listed
  rising_is_listed es f sorted same none = rising_entries 1048576 0 es f sorted (from_zero es) (λ q l. same q) (λ q l. none q (omega arith)) where
    from_zero : (fs : List (ℕ × X)) → IsFrom 0 fs
    from_zero [] = tt
    from_zero (e ∷ fs) = omega arith

  pub length_listed : (f : ℕ → Option X) → length (listed f) ≤ 1048576
  unfolding listed
  length_listed f = length_pairs 1048576 0 f
