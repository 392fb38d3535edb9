-- What stands after a comment's opening symbol.
use Rattle.std.proofs.Common.{◌&&◌, ◌++◌, ◌+◌, ◌∙◌, ◌∷◌, ◌≡◌, ◌≤◌, [], ℕ, Bool, List, None, Option, Some, ap, arith, false, inl, inr, length, nat_eq, refl}
use Rattle.std.proofs.Common.{subst, suc, sym, take, true, zero}
use Rattle.std.proofs.lemmas.{Bool.and_parts, Bool.eqb-true, Bool.or_from, Bool.or_parts, Option.same_Some}
use Rattle.pas_lexer.proofs.LongestRun.{chosen}
use Rattle.pas_lexer.specs.{Lexis.IsClosed, Lexis.next_is, Reading.closing, Reading.more_by}

-- the second byte of a closing symbol stands in what is closed
two_same : (l rest : List ℕ) → IsClosed l → next_is 41 (l ++ rest) ≡ next_is 41 l
two_same [] rest h = absurd h
two_same (d ∷ l) rest h = refl

pub closing_again : (after rest : List ℕ) → IsClosed after → closing (after ++ rest) ≡ Some (length after)
closing_again [] rest h = absurd h
closing_again (c ∷ l) rest h =
    elim h [
      | inl e ↦ subst (λ (x : List ℕ). closing (x ++ rest) ≡ Some (length x)) (sym e) refl
      | inr g ↦ elim g [
        | inl e ↦ subst (λ (x : List ℕ). closing (x ++ rest) ≡ Some (length x)) (sym e) refl
        | inr f ↦
            let n = or_parts (nat_eq c 125) (nat_eq c 42 && next_is 41 l) f.0 in
            let one : nat_eq c 125 ≡ false = n.0 in
            let two : (nat_eq c 42 && next_is 41 (l ++ rest)) ≡ false = ap (λ (b : Bool). nat_eq c 42 && b) (two_same l rest f.1) ∙ n.1 in
            rw (one, two) (ap (more_by 1) (closing_again l rest f.1) ∙ ap Some (omega arith))
      ]
    ]

-- the bytes up to the end that is read are closed
pub closing_sound : (l : List ℕ) (n : ℕ) → closing l ≡ Some n → IsClosed (take n l) × (n ≤ length l)
closing_sound [] n e = absurd cc
closing_sound (c ∷ l) n e =
    elim (chosen (nat_eq c 125) (Some 1) _ (Some n) e) [
      | inl h ↦ subst (λ (m : ℕ). IsClosed (take m (c ∷ l)) × (m ≤ length (c ∷ l))) (same_Some 1 n h.1) (
        inl (ap (λ (x : ℕ). x ∷ []) (eqb-true c 125 h.0)),
        omega arith,
      )
      | inr h ↦ elim (chosen (nat_eq c 42 && next_is 41 l) (Some 2) (more_by 1 (closing l)) (Some n) h.1) [
        | inl g ↦ subst (λ (m : ℕ). IsClosed (take m (c ∷ l)) × (m ≤ length (c ∷ l))) (same_Some 2 n g.1)
            (two_closed c l (and_parts (nat_eq c 42) (next_is 41 l) g.0).0 (and_parts (nat_eq c 42) (next_is 41 l) g.0).1)
        | inr g ↦
            let m = more_is (closing l) n g.1 in
            let t = closing_sound l m.0 m.1 in
            subst (λ (j : ℕ). IsClosed (take j (c ∷ l)) × (j ≤ length (c ∷ l))) m.2
            (inr (inr (or_from (nat_eq c 125) (nat_eq c 42 && next_is 41 (take m.0 l)) h.0 (still c l m.0 g.0 t.0), t.0)), omega (arith, t.1))
      ]
    ]
  where
    more_is : (o : Option ℕ) (n : ℕ) → more_by 1 o ≡ Some n → (m : ℕ) × (o ≡ Some m) × (suc m ≡ n)
    more_is None n e = absurd cc
    more_is (Some m) n e = let f : 1 + m ≡ n = cc in (m, refl, omega arith)

    two_closed : (c : ℕ) (l : List ℕ) → nat_eq c 42 ≡ true → next_is 41 l ≡ true → IsClosed (take 2 (c ∷ l)) × (2 ≤ length (c ∷ l))
    two_closed c [] one two = absurd cc
    two_closed c (d ∷ l) one two = (
      inr (inl (ap (λ (x : ℕ). x ∷ (d ∷ [])) (eqb-true c 42 one) ∙ ap (λ (x : ℕ). 42 ∷ (x ∷ [])) (eqb-true d 41 two))),
      omega arith,
    )

    still : (c : ℕ) (l : List ℕ) (m : ℕ) → (nat_eq c 42 && next_is 41 l) ≡ false → IsClosed (take m l) → (nat_eq c 42 && next_is 41 (take m l)) ≡ false
    still c l zero e h = absurd h
    still c [] (suc m) e h = absurd h
    still c (d ∷ l) (suc m) e h = e

pub never_closed : (l : List ℕ) → closing l ≡ None → (front more : List ℕ) → l ≡ front ++ more → IsClosed front → ⊥
never_closed l e front more whole h = let never : Some (length front) ≡ None = sym (closing_again front more h) ∙ ap closing (sym whole) ∙ e in cc
