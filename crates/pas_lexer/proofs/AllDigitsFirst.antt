-- Bytes, and the digits that stand first.
use Rattle.std.proofs.Common.{◌++◌, ◌<◌, ◌∙◌, ◌∷◌, ◌≡◌, ◌≤◌, [], ℕ, Bool, List, None, Some, ap, arith, drop, false, inl, inr, length, nat_eq, nat_lt, refl}
use Rattle.std.proofs.{Common.subst, Common.sym, Common.take, Common.true, Math.Seq.drop-append_seam, Math.Seq.take-append_seam}
use Rattle.std.proofs.lemmas.{Bool.le-ltb, Bool.lt-ltb, Bool.ltb-false, Bool.ltb-true, Bool.Decides.nat_tests, List.take-append-drop, Option.same_Some}
use Rattle.std.specs.List.{AllPass}
use Rattle.pas_lexer.proofs.LongestRun.{Stops, chosen, head_is, pass_cons, pass_more, run_again, run_passes, run_stops}
use Rattle.pas_lexer.specs.Lexis.{BeginsJoined, BeginsReal, FirstDigits, IsDigitSequence, decimal, digit, digit_first, letter, letter_first, letter_or_digit}
use Rattle.pas_lexer.specs.Lexis.{maxint, next_is, opens_comment, real_follows, separator}
use Rattle.pas_lexer.specs.Reading.{number_at, number_before, number_in, piece_at, run_length}

-- ---- bytes

pub digit_no_letter : (c : ℕ) → digit c ≡ true → letter c ≡ false
digit_no_letter c h = grind (arith, nat_tests)

pub letter_passes : (c : ℕ) → letter c ≡ true → letter_or_digit c ≡ true
letter_passes c h = grind (arith, nat_tests)

pub separator_no_letter : (c : ℕ) → separator c ≡ true → letter c ≡ false
separator_no_letter c h = grind (arith, nat_tests)

pub separator_no_digit : (c : ℕ) → separator c ≡ true → digit c ≡ false
separator_no_digit c h = grind (arith, nat_tests)

letter_no_brace : (c : ℕ) → letter c ≡ true → nat_eq c 123 ≡ false
letter_no_brace c h = grind (arith, nat_tests)

letter_no_paren : (c : ℕ) → letter c ≡ true → nat_eq c 40 ≡ false
letter_no_paren c h = grind (arith, nat_tests)

digit_no_brace : (c : ℕ) → digit c ≡ true → nat_eq c 123 ≡ false
digit_no_brace c h = grind (arith, nat_tests)

digit_no_paren : (c : ℕ) → digit c ≡ true → nat_eq c 40 ≡ false
digit_no_paren c h = grind (arith, nat_tests)

digit_no_slash : (c : ℕ) → digit c ≡ true → nat_eq c 47 ≡ false
digit_no_slash c h = grind (arith, nat_tests)

no_opening : (c : ℕ) (l : List ℕ) → nat_eq c 123 ≡ false → nat_eq c 40 ≡ false → opens_comment (c ∷ l) ≡ false
no_opening c l e f = rw (e, f) refl

pub letter_opens_none : (c : ℕ) (l : List ℕ) → letter c ≡ true → opens_comment (c ∷ l) ≡ false
letter_opens_none c l h = no_opening c l (letter_no_brace c h) (letter_no_paren c h)

pub digit_opens_none : (c : ℕ) (l : List ℕ) → digit c ≡ true → opens_comment (c ∷ l) ≡ false
digit_opens_none c l h = no_opening c l (digit_no_brace c h) (digit_no_paren c h)

pub both_ways : (b : Bool) → b ≡ true → b ≡ false → ⊥
both_ways b e f = let g : true ≡ false = sym e ∙ f in cc

-- ---- digits

pub digits_all : (t : List ℕ) → IsDigitSequence t → AllPass digit t
digits_all [] h = absurd h
digits_all (c ∷ cs) h = pass_cons digit c cs h.0 h.1

pub digits_more : (t : List ℕ) (d : ℕ) → IsDigitSequence t → digit d ≡ true → IsDigitSequence (t ++ d ∷ [])
digits_more [] d h e = absurd h
digits_more (c ∷ cs) d h e = (h.0, pass_more digit cs d h.1 e)

pub stops_first : (rest : List ℕ) → Stops digit rest → digit_first rest ≡ false
stops_first [] s = refl
stops_first (c ∷ l) s = s

first_stops : (rest : List ℕ) → digit_first rest ≡ false → Stops digit rest
first_stops [] e = tt
first_stops (c ∷ l) e = e

-- where digits stand first, these are all of them
pub first_digits : (c : ℕ) (l : List ℕ) → digit c ≡ true → FirstDigits (c ∷ l) (c ∷ take (run_length digit l) l) (drop (run_length digit l) l)
first_digits c l h = (
  ap (λ (x : List ℕ). c ∷ x) (sym (take-append-drop (run_length digit l) l)),
  (h, run_passes digit l),
  stops_first (drop (run_length digit l) l) (run_stops digit l),
)

-- with what is read of them
pub number_read : (l digits rest : List ℕ) → FirstDigits l digits rest → piece_at l ≡ number_before rest (length digits) digits
unfolding piece_at number_at
number_read l [] rest f = absurd f.1
number_read l (c ∷ cs) rest f =
    let n : run_length digit ((c ∷ cs) ++ rest) ≡ length (c ∷ cs) = run_again digit (c ∷ cs) rest (digits_all (c ∷ cs) f.1) (first_stops rest f.2) in
    let a : letter c ≡ false = digit_no_letter c f.1.0 in
    let b : digit c ≡ true = f.1.0 in
    let at : piece_at ((c ∷ cs) ++ rest) ≡ number_at ((c ∷ cs) ++ rest) = rw (a, b) refl in
    ap piece_at f.0 ∙ at
    ∙ ap (λ (m : ℕ). number_before (drop m ((c ∷ cs) ++ rest)) m (take m ((c ∷ cs) ++ rest))) n
    ∙ ap (λ (x : List ℕ). number_before x (length (c ∷ cs)) (take (length (c ∷ cs)) ((c ∷ cs) ++ rest))) (drop-append_seam (c ∷ cs) rest)
    ∙ ap (number_before rest (length (c ∷ cs))) (take-append_seam (c ∷ cs) rest)

digits_are : (l digits rest : List ℕ) → FirstDigits l digits rest → (take (run_length digit l) l ≡ digits) × (drop (run_length digit l) l ≡ rest)
digits_are l digits rest f =
    let n : run_length digit l ≡ length digits = ap (run_length digit) f.0 ∙ run_again digit digits rest (digits_all digits f.1) (first_stops rest f.2) in (
      ap (λ (m : ℕ). take m l) n ∙ ap (take (length digits)) f.0 ∙ take-append_seam digits rest,
      ap (λ (m : ℕ). drop m l) n ∙ ap (drop (length digits)) f.0
          ∙ drop-append_seam digits rest,
    )

rest_same : (l digits rest others more : List ℕ) → FirstDigits l digits rest → FirstDigits l others more → rest ≡ more
rest_same l digits rest others more f g = sym (digits_are l digits rest f).1 ∙ (digits_are l others more g).1

-- what begins with digits begins with one
pub digit_here : (c : ℕ) (l digits rest : List ℕ) → FirstDigits (c ∷ l) digits rest → digit c ≡ true
digit_here c l [] rest f = absurd f.1
digit_here c l (d ∷ ds) rest f = ap digit (head_is c d l (ds ++ rest) f.0) ∙ f.1.0

pub no_slash_first : (l digits rest : List ℕ) → FirstDigits l digits rest → next_is 47 l ≡ false
no_slash_first [] digits rest f = refl
no_slash_first (c ∷ l) digits rest f = digit_no_slash c (digit_here c l digits rest f)

pub not_real : (l digits rest : List ℕ) → FirstDigits l digits rest → real_follows rest ≡ false → BeginsReal l → ⊥
not_real l digits rest f e (inl h) = both_ways (next_is 47 l) h (no_slash_first l digits rest f)
not_real l digits rest f e (inr h) = both_ways (real_follows rest) (ap real_follows (rest_same l digits rest h.0 h.1 f h.2) ∙ h.3) e

pub not_joined : (l digits rest : List ℕ) → FirstDigits l digits rest → letter_first rest ≡ false → BeginsJoined l → ⊥
not_joined l digits rest f e h = both_ways (letter_first rest) (ap letter_first (rest_same l digits rest h.0 h.1 f h.2) ∙ h.3) e

-- ---- values

pub small_number : (t : List ℕ) → decimal t ≤ maxint → number_in t ≡ Some (decimal t)
unfolding number_in
small_number t le = let e : nat_lt maxint (decimal t) ≡ false = le-ltb maxint (decimal t) le in rw e refl

pub large_number : (t : List ℕ) → maxint < decimal t → number_in t ≡ None
unfolding number_in
large_number t lt = let e : nat_lt maxint (decimal t) ≡ true = lt-ltb maxint (decimal t) lt in rw e refl

pub number_small : (t : List ℕ) (n : ℕ) → number_in t ≡ Some n → (decimal t ≡ n) × (n ≤ maxint)
unfolding number_in
number_small t n e =
    elim (chosen (nat_lt maxint (decimal t)) None (Some (decimal t)) (Some n) e) [
      | inl h ↦ absurd (let never : None ≡ Some n = h.1 in cc)
      | inr h ↦ let same : decimal t ≡ n = same_Some (decimal t) n h.1 in (same, subst (λ (m : ℕ). m ≤ maxint) same (ltb-false maxint (decimal t) h.0))
    ]

pub number_large : (t : List ℕ) → number_in t ≡ None → maxint < decimal t
unfolding number_in
number_large t e =
    elim (chosen (nat_lt maxint (decimal t)) None (Some (decimal t)) None e) [
      | inl h ↦ ltb-true maxint (decimal t) h.0
      | inr h ↦ absurd (let never : Some (decimal t) ≡ None = h.1 in cc)
    ]
