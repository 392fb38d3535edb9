-- What stands after a string's first apostrophe.
use Rattle.std.proofs.Common.{◌++◌, ◌+◌, ◌<◌, ◌∙◌, ◌∷◌, ◌≡◌, [], ℕ, Bool, List, None, Option, Some, ap, arith, cond, false, inl, inr, length, nat_eq, refl}
use Rattle.std.{proofs.Common.subst, proofs.Common.suc, proofs.Common.sym, proofs.Common.true, specs.List.AllPass}
use Rattle.std.proofs.lemmas.{Bool.eqb-true, Bool.not-true, Bool.not_from_false, Option.same_Some}
use Rattle.pas_lexer.proofs.LongestRun.{chosen, fact_of, pass_cons, pass_head, pass_nil, pass_tail}
use Rattle.pas_lexer.specs.Lexis.{IsCharacters, apostrophe, doubled, ends_first, ends_line, in_line}
use Rattle.pas_lexer.specs.Reading.{more_by, or_else, string_end}

-- characters end at an apostrophe, this many bytes on
pub record Ended (l : List ℕ) (n : ℕ) : Type 0 where
  pub text : List ℕ
  pub rest : List ℕ
  pub whole : l ≡ doubled text ++ (apostrophe ∷ rest)
  pub on_line : AllPass in_line text
  pub len : n ≡ suc (length (doubled text))

-- characters go on to the end of the line, or of the source
pub record Open (l : List ℕ) : Type 0 where
  pub text : List ℕ
  pub rest : List ℕ
  pub whole : l ≡ doubled text ++ rest
  pub on_line : AllPass in_line text
  pub ends : ends_first rest ≡ true

pub doubled_apostrophe : (c : ℕ) (cs : List ℕ) → nat_eq c apostrophe ≡ true → doubled (c ∷ cs) ≡ c ∷ (c ∷ doubled cs)
doubled_apostrophe c cs e = rw e refl

pub doubled_other : (c : ℕ) (cs : List ℕ) → nat_eq c apostrophe ≡ false → doubled (c ∷ cs) ≡ c ∷ doubled cs
doubled_other c cs e = rw e refl

-- an apostrophe, twice
two_more : (l : List ℕ) (n : ℕ) → Ended l n → Ended (apostrophe ∷ (apostrophe ∷ l)) (suc (suc n))
two_more l n h = record {
  text = apostrophe ∷ h.text;
  rest = h.rest;
  whole = ap (λ (x : List ℕ). apostrophe ∷ (apostrophe ∷ x)) h.whole;
  on_line = pass_cons in_line apostrophe h.text refl h.on_line;
  len = ap (λ (m : ℕ). suc (suc m)) h.len;
}

one_more : (c : ℕ) (l : List ℕ) (n : ℕ) → nat_eq c apostrophe ≡ false → ends_line c ≡ false → Ended l n → Ended (c ∷ l) (suc n)
one_more c l n e f h = record {
  text = c ∷ h.text;
  rest = h.rest;
  whole = ap (λ (x : List ℕ). c ∷ x) h.whole ∙ ap (λ (x : List ℕ). x ++ (apostrophe ∷ h.rest)) (sym (doubled_other c h.text e));
  on_line = pass_cons in_line c h.text (not_from_false (ends_line c) f) h.on_line;
  len = ap suc h.len ∙ ap (λ (x : List ℕ). suc (length x)) (sym (doubled_other c h.text e));
}

-- after an apostrophe that has no other yet, another stands
abbrev Sound : Bool → List ℕ → ℕ → Type 0
Sound false l n = Ended l n
Sound true l n = (m : ℕ) × (rest : List ℕ) × (l ≡ apostrophe ∷ rest) × (n ≡ suc m) × Ended rest m

more_is : (o : Option ℕ) (n : ℕ) → more_by 1 o ≡ Some n → (m : ℕ) × (o ≡ Some m) × (n ≡ suc m)
more_is None n e = absurd cc
more_is (Some m) n e = let f : 1 + m ≡ n = cc in (m, refl, omega arith)

-- the end that is read ends characters
sound : (b : Bool) (l : List ℕ) (n : ℕ) → string_end b l ≡ Some n → Sound b l n
sound true [] n e = absurd cc
sound false [] n e = absurd cc
sound true (c ∷ l) n e =
    elim (chosen (nat_eq c apostrophe) (more_by 1 (string_end false l)) None (Some n) e) [
      | inl h ↦ let m = more_is (string_end false l) n h.1 in (m.0, l, ap (λ (x : ℕ). x ∷ l) (eqb-true c apostrophe h.0), m.2, sound false l m.0 m.1)
      | inr h ↦ absurd (let never : None ≡ Some n = h.1 in cc)
    ]
sound false (c ∷ l) n e =
    elim (chosen (nat_eq c apostrophe) (or_else (more_by 1 (string_end true l)) (Some 1))
    (cond (ends_line c) None (more_by 1 (string_end false l))) (Some n) e) [
      | inl h ↦ subst (λ (x : ℕ). Ended (x ∷ l) n) (sym (eqb-true c apostrophe h.0)) (apart (string_end true l) n refl h.1 (λ m g. sound true l m g))
      | inr h ↦ elim (chosen (ends_line c) None (more_by 1 (string_end false l)) (Some n) h.1) [
        | inl g ↦ absurd (let never : None ≡ Some n = g.1 in cc)
        | inr g ↦ let m = more_is (string_end false l) n g.1 in subst (λ (x : ℕ). Ended (c ∷ l) x) (sym m.2) (one_more c l m.0 h.0 g.0 (sound false l m.0 m.1))
      ]
    ]
  where
    apart : (o : Option ℕ) (n : ℕ) → string_end true l ≡ o → or_else (more_by 1 o) (Some 1) ≡ Some n → ((m : ℕ) → string_end true l ≡ Some m → Sound true l m)
        → Ended (apostrophe ∷ l) n
    apart None n g e further = record { text = []; rest = l; whole = refl; on_line = pass_nil in_line; len = sym (same_Some 1 n e) }
    apart (Some m) n g e further =
        let s = further m g in
        let count : n ≡ suc (suc s.0) = omega (arith, same_Some (1 + m) n e, s.3) in
        subst (λ (x : List ℕ). Ended (apostrophe ∷ x) n) (sym s.2) (subst (λ (x : ℕ). Ended (apostrophe ∷ (apostrophe ∷ s.1)) x) (sym count)
        (two_more s.1 s.0 s.4))

pub ended_sound : (l : List ℕ) (n : ℕ) → string_end false l ≡ Some n → Ended l n
ended_sound l n e = sound false l n e

-- where characters end, an end is read that is no nearer
pub ended_found : (text rest : List ℕ) → AllPass in_line text → (n : ℕ) × (string_end false (doubled text ++ (apostrophe ∷ rest)) ≡ Some n)
    × (length (doubled text) < n)
ended_found [] rest h = at (string_end true rest) refl
  where
    at : (o : Option ℕ) → string_end true rest ≡ o → (n : ℕ) × (or_else (more_by 1 o) (Some 1) ≡ Some n) × (0 < n)
    at None e = (1, refl, omega arith)
    at (Some m) e = (1 + m, refl, omega arith)
ended_found (c ∷ cs) rest h =
    let further = ended_found cs rest (pass_tail in_line c cs h) in
    let l : List ℕ = doubled cs ++ (apostrophe ∷ rest) in
    elim (fact_of (nat_eq c apostrophe)) [
      | inl e ↦
          let d : doubled (c ∷ cs) ≡ c ∷ (c ∷ doubled cs) = doubled_apostrophe c cs e in
          subst (λ (x : List ℕ). (n : ℕ) × (string_end false (x ++ (apostrophe ∷ rest)) ≡ Some n)
          × (length x < n)) (sym d) (suc (suc further.0), twice c l further.0 e further.1, omega (arith, further.2))
      | inr e ↦
          let d : doubled (c ∷ cs) ≡ c ∷ doubled cs = doubled_other c cs e in
          subst (λ (x : List ℕ). (n : ℕ) × (string_end false (x ++ (apostrophe ∷ rest)) ≡ Some n)
          × (length x < n)) (sym d) (
            suc further.0,
            once c l further.0 e (not-true (ends_line c) (pass_head in_line c cs h)) further.1,
            omega (arith, further.2),
          )
    ]
  where
    twice : (c : ℕ) (l : List ℕ) (n : ℕ) → nat_eq c apostrophe ≡ true → string_end false l ≡ Some n → string_end false (c ∷ (c ∷ l)) ≡ Some (suc (suc n))
    twice c l n e f = rw (e, f) (ap Some (omega arith))

    once : (c : ℕ) (l : List ℕ) (n : ℕ) → nat_eq c apostrophe ≡ false → ends_line c ≡ false → string_end false l ≡ Some n
        → string_end false (c ∷ l) ≡ Some (suc n)
    once c l n e g f = rw (e, g, f) (ap Some (omega arith))

-- where no end is read, characters go on to the end of the line
pub open_found : (l : List ℕ) → string_end false l ≡ None → Open l
open_found [] e = record { text = []; rest = []; whole = refl; on_line = pass_nil in_line; ends = refl }
open_found (c ∷ l) e =
    elim (chosen (nat_eq c apostrophe) (or_else (more_by 1 (string_end true l)) (Some 1)) (cond (ends_line c) None (more_by 1 (string_end false l))) None e) [
      | inl h ↦ absurd (some_one (more_by 1 (string_end true l)) h.1)
      | inr h ↦ elim (chosen (ends_line c) None (more_by 1 (string_end false l)) None h.1) [
        | inl g ↦ record { text = []; rest = c ∷ l; whole = refl; on_line = pass_nil in_line; ends = g.0 }
        | inr g ↦
            let o = open_found l (none_more (string_end false l) g.1) in
            record {
              text = c ∷ o.text;
              rest = o.rest;
              whole = ap (λ (x : List ℕ). c ∷ x) o.whole ∙ ap (λ (x : List ℕ). x ++ o.rest) (sym (doubled_other c o.text h.0));
              on_line = pass_cons in_line c o.text (not_from_false (ends_line c) g.0) o.on_line;
              ends = o.ends;
            }
      ]
    ]
  where
    some_one : (o : Option ℕ) → or_else o (Some 1) ≡ None → ⊥
    some_one None e = cc
    some_one (Some m) e = cc

    none_more : (o : Option ℕ) → more_by 1 o ≡ None → o ≡ None
    none_more None e = refl
    none_more (Some m) e = absurd cc

-- characters that are not none
pub characters_are : (text : List ℕ) → AllPass in_line text → 0 < length (doubled text) → IsCharacters text
characters_are [] h lt = absurd (omega (arith, lt))
characters_are (c ∷ cs) h lt = h

pub characters_on_line : (text : List ℕ) → IsCharacters text → AllPass in_line text
characters_on_line [] h = absurd h
characters_on_line (c ∷ cs) h = h

pub characters_some : (text : List ℕ) → IsCharacters text → 0 < length (doubled text)
characters_some [] h = absurd h
characters_some (c ∷ cs) h =
    elim (fact_of (nat_eq c apostrophe)) [
      | inl e ↦ omega (arith, ap length (doubled_apostrophe c cs e))
      | inr e ↦ omega (arith, ap length (doubled_other c cs e))
    ]
