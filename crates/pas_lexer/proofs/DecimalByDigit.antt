-- Decimal notation, digit by digit.
use Rattle.std.proofs.Common.{◌*◌, ◌+◌, ◌-◌, ◌<◌, ◌^◌, ◌∙◌, ◌∷◌, ◌≡◌, ◌≤◌, [], ℕ, List, None, ap, arith, drop, drop-cons, get_or, length, nat_lt, refl, suc}
use Rattle.std.proofs.{Common.true, Math.Nat.pow-suc, lemmas.Bool.Decides.nat_tests}
use Rattle.pas_lexer.specs.{Lexis.decimal, Lexis.maxint, Reading.number_in}

-- the value so far, followed by the digits that are left
abbrev pub then_digits : ℕ → List ℕ → ℕ
then_digits value left = value * 10 ^ length left + decimal left

moved : (value c : ℕ) (cs : List ℕ) → then_digits value (c ∷ cs) ≡ then_digits (value * 10 + (c - 48)) cs
moved value c cs = moved_by value (c - 48) (10 ^ length cs) (10 ^ suc (length cs)) (decimal cs) (pow-suc 10 (length cs))
  where
    moved_by : (value digit power next left : ℕ) → next ≡ power * 10 → value * next + (digit * power + left) ≡ (value * 10 + digit) * power + left
    moved_by value digit power next left e = rw e (omega arith)

pub one_more : (digits : List ℕ) (i value : ℕ) → i < length digits → then_digits value (drop i digits)
    ≡ then_digits (value * 10 + (get_or digits i 0 - 48)) (drop (i + 1) digits)
one_more digits i value lt =
    let next : suc i ≡ i + 1 = omega arith in
    ap (then_digits value) (drop-cons digits i 0 lt) ∙ moved value (get_or digits i 0) (drop (suc i) digits)
    ∙ ap (λ (n : ℕ). then_digits (value * 10 + (get_or digits i 0 - 48)) (drop n digits)) next

at_least : (value : ℕ) (left : List ℕ) → value ≤ then_digits value left
at_least value [] = omega arith
at_least value (c ∷ cs) = omega (arith, moved value c cs, at_least (value * 10 + (c - 48)) cs)

-- the number is too large already
pub too_large : (digits : List ℕ) (i value : ℕ) → i < length digits → then_digits value (drop i digits) ≡ decimal digits
    → maxint < value * 10 + (get_or digits i 0 - 48) → None ≡ number_in digits
unfolding number_in
too_large digits i value lt so_far large =
    let more : value * 10 + (get_or digits i 0 - 48) ≤ decimal digits = omega (
      arith,
      one_more digits i value lt,
      so_far,
      at_least (value * 10 + (get_or digits i 0 - 48)) (drop (i + 1) digits),
    ) in
    let test : nat_lt maxint (decimal digits) ≡ true = is_less maxint (value * 10 + (get_or digits i 0 - 48)) (decimal digits) large more in
    rw test refl
  where
    is_less : (a b d : ℕ) → a < b → b ≤ d → nat_lt a d ≡ true
    is_less a b d lt le = grind (arith, nat_tests)
