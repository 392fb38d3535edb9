-- Digits spell a number as std parses them.
use Rattle.std.proofs.Common.{if◌then◌else◌, ◌&&◌, ◌<◌, ◌^◌, ◌∙◌, ◌∷◌, ◌≡◌, ◌≤◌, [], ℕ, Bool, List, None, Some, ap, arith, codes, cond, drop, false, length}
use Rattle.std.proofs.Common.{nat_eq, nat_le, not, refl, subst, sym, true}
use Rattle.std.proofs.lemmas.Bool.{and_from, Decides.nat_tests}
use Rattle.std.specs.{Char.digit_value, Char.is_ascii_digit, List.list_all, List.starts_with}
use Rattle.std.specs.Str.Parse.{AllDigits, IsNumeral, digits_value, without_leading_plus}
use Rattle.debug_cli.specs.Meaning.{budget_spelled, is_plain_number, is_spelled, number_spelled}

and2 : (a b : Bool) → (a && b) ≡ true → (a ≡ true) × (b ≡ true)
and2 true b h = (refl, h)
and2 false b h = absurd (let x : ⊥ = cc in x)

and3 : (a b c : Bool) → (a && b && c) ≡ true → (a ≡ true) × (b ≡ true) × (c ≡ true)
and3 true true true h = (refl, refl, refl)
and3 false b c h = absurd (let x : ⊥ = cc in x)
and3 true false c h = absurd (let x : ⊥ = cc in x)
and3 true true false h = absurd (let x : ⊥ = cc in x)

all3 : (a b c : Bool) → a ≡ true → b ≡ true → c ≡ true → (a && b && c) ≡ true
all3 a b c x y z = rw (x, y, z) refl

-- ---- digits

digit_below : (c : ℕ) → is_ascii_digit c ≡ true → digit_value c < 10
digit_below c h = grind (arith, nat_tests)

digit_is : (c : ℕ) → digit_value c < 10 → is_ascii_digit c ≡ true
digit_is c h = grind (arith, nat_tests)

digits_below : (text : List ℕ) → list_all is_ascii_digit text ≡ true → AllDigits 10 text
digits_below [] h = tt
digits_below (c ∷ cs) h = let both = and2 (is_ascii_digit c) (list_all is_ascii_digit cs) h in (digit_below c both.0, digits_below cs both.1)

digits_are : (text : List ℕ) → AllDigits 10 text → list_all is_ascii_digit text ≡ true
digits_are [] h = refl
digits_are (c ∷ cs) h = ap (λ b. b && list_all is_ascii_digit cs) (digit_is c h.0) ∙ digits_are cs h.1

no_plus : (text : List ℕ) → starts_with nat_eq text (codes "+") ≡ false → without_leading_plus text ≡ text
no_plus [] h = refl
no_plus (c ∷ cs) h = by (nat_eq c 43) refl
  where
    by : (b : Bool) → nat_eq c 43 ≡ b → drop (cond (nat_eq c 43) 1 0) (c ∷ cs) ≡ c ∷ cs
    by false e = ap (λ b. drop (cond b 1 0) (c ∷ cs)) e
    by true e = absurd (let same : nat_eq 43 c ≡ true = grind (arith, nat_tests) in let x : true ≡ false = cc in let y : ⊥ = cc in y)

-- ---- a text without a plus

module _ (text : List ℕ) (plain : starts_with nat_eq text (codes "+") ≡ false) where
  -- std parses it as a number of 32 bits
  abbrev Parses : Type 0
  Parses = IsNumeral 10 (without_leading_plus text) × (digits_value 10 (without_leading_plus text) < 2 ^ 32)

  -- the number that it spells
  abbrev spelled : ℕ
  spelled = digits_value 10 text

  module _ (n : ℕ) (is : Parses × (n ≡ digits_value 10 (without_leading_plus text))) where
    numeral : (0 < length text) × AllDigits 10 text
    numeral = subst (λ (ds : List ℕ). (0 < length ds) × AllDigits 10 ds) (no_plus text plain) is.0.0

    value : spelled ≡ n
    value = ap (digits_value 10) (sym (no_plus text plain)) ∙ sym is.1

  must_parse : (Parses → ⊥) → 0 < length text → list_all is_ascii_digit text ≡ true → spelled < 2 ^ 32 → ⊥
  must_parse not some digits few =
      not (subst (λ (ds : List ℕ). ((0 < length ds) × AllDigits 10 ds) × (digits_value 10 ds < 2 ^ 32)) (sym (no_plus text plain))
      ((some, digits_below text digits), few))

  -- ---- a number of steps

  module _ (short : length text ≤ 7) where
    pub spells : (steps : ℕ) → Parses × (steps ≡ digits_value 10 (without_leading_plus text)) → 1 ≤ steps → steps ≤ 4000000
        → Some steps ≡ budget_spelled text
    spells steps is least most =
        let found = numeral steps is in
        let digits : is_spelled text ≡ true =
        all3 (nat_le 1 (length text)) (nat_le (length text) 7) (list_all is_ascii_digit text) (grind (arith, nat_tests, found.0)) (grind (arith, nat_tests))
        (digits_are text found.1) in
        sym (ap (λ (n : ℕ). if is_spelled text && nat_le 1 n && nat_le n 4000000 then Some n else None) (value steps is)
        ∙ ap (λ (b : Bool). if b then Some steps else None)
        (all3 (is_spelled text) (nat_le 1 steps) (nat_le steps 4000000) digits (grind (arith, nat_tests)) (grind (arith, nat_tests))))

    pub spells_none : (Parses → ⊥) → None ≡ budget_spelled text
    spells_none not = by (is_spelled text && nat_le 1 spelled && nat_le spelled 4000000) refl
      where
        by : (b : Bool) → (is_spelled text && nat_le 1 spelled && nat_le spelled 4000000) ≡ b → None ≡ budget_spelled text
        by false is = sym (ap (λ (b : Bool). if b then Some spelled else None) is)
        by true is =
            let all = and3 (is_spelled text) (nat_le 1 spelled) (nat_le spelled 4000000) is in
            let digits = and3 (nat_le 1 (length text)) (nat_le (length text) 7) (list_all is_ascii_digit text) all.0 in
            absurd (must_parse not (grind (arith, nat_tests, digits.0)) digits.2 (grind (arith, nat_tests, all.2)))

  -- ---- the number of a made source

  pub spells_number : (n : ℕ) → Parses × (n ≡ digits_value 10 (without_leading_plus text)) → starts_with nat_eq text (codes "0") ≡ false
      → 1 ≤ n → n ≤ 14 → Some n ≡ number_spelled text
  spells_number n is first least most =
      let digits : is_plain_number text ≡ true =
      and_from (list_all is_ascii_digit text) (not (starts_with nat_eq text (codes "0"))) (digits_are text (numeral n is).1) (ap not first) in
      sym (ap (λ (n : ℕ). if is_plain_number text && nat_le 1 n && nat_le n 14 then Some n else None) (value n is)
      ∙ ap (λ (b : Bool). if b then Some n else None)
      (all3 (is_plain_number text) (nat_le 1 n) (nat_le n 14) digits (grind (arith, nat_tests)) (grind (arith, nat_tests))))

  pub spells_no_number : (Parses → ⊥) → None ≡ number_spelled text
  spells_no_number not_parsed = by (is_plain_number text && nat_le 1 spelled && nat_le spelled 14) refl
    where
      some : (text : List ℕ) → nat_le 1 (digits_value 10 text) ≡ true → 0 < length text
      some [] is = absurd (let x : ⊥ = cc in x)
      some (c ∷ cs) is = omega arith

      by : (b : Bool) → (is_plain_number text && nat_le 1 spelled && nat_le spelled 14) ≡ b → None ≡ number_spelled text
      by false is = sym (ap (λ (b : Bool). if b then Some spelled else None) is)
      by true is =
          let all = and3 (is_plain_number text) (nat_le 1 spelled) (nat_le spelled 14) is in
          let digits = and2 (list_all is_ascii_digit text) (not (starts_with nat_eq text (codes "0"))) all.0 in
          absurd (must_parse not_parsed (some text all.1) digits.0 (grind (arith, nat_tests, all.2)))
