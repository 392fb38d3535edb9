-- The empty set, inclusion, and what a set holds of a whole number.
use Rattle.std.proofs.Common.{◌%◌, ◌&&◌, ◌*◌, ◌+◌, ◌/◌, ◌<◌, ◌==◌, ◌^◌, ◌||◌, ◌∙◌, ◌≡◌, ◌≤◌, ◌⊎◌, ℕ, ℤ, Bool, arith, bit_and, bit_or, false, inl, inr, length}
use Rattle.std.proofs.Common.{lit<, negsuc, not, pos, refl, slice_index_or, suc, sym, true, zero}
use Rattle.std.{proofs.Math.IntN.nat_abs, proofs.lemmas.Bool.cases_lt, specs.Int.FitsUnsignedBits}
use Rattle.std.proofs.lemmas.Nat.{le_or_l, le_or_r, Bits.bit_at-lt, Bits.bit_at-zero, Bits.same_from_bits_below, Bits.shr_and_one}
use Rattle.cell_value.proofs.WordsMakeSets.{IsWhole, bit_from_test, each_of_four, has_above, has_at, has_in_word, has_set_of_low, set_of_four}
use Rattle.cell_value.specs.Sets.{difference_of, has, has_number, holds_below, is_included}
use Rattle.cell_value.specs.declared.values.SetBits.{SetBits}

-- ---- the set that holds nothing

zero_holds : (set : SetBits) → length set.words ≡ 4 → ((k : ℕ) → k < 4 → slice_index_or set.words k 0 ≡ 0) → (ordinal : ℕ) → (ordinal < 256) ⊎ (256 ≤ ordinal)
    → has set ordinal ≡ false
zero_holds set four each ordinal (inl low) = has_at set ordinal four low ∙ rw (each (ordinal / 64) (omega arith), bit_at-zero (ordinal % 64)) refl
zero_holds set four each ordinal (inr above) = has_above set ordinal four above

-- all bits of a set's words
abbrev all_bits : SetBits → ℕ
all_bits set = bit_or (bit_or (bit_or (slice_index_or set.words 0 0) (slice_index_or set.words 1 0)) (slice_index_or set.words 2 0))
    (slice_index_or set.words 3 0)

words_are_zero : (set : SetBits) → all_bits set ≡ 0 → (k : ℕ) → k < 4 → slice_index_or set.words k 0 ≡ 0
words_are_zero set e =
    let w = slice_index_or set.words 0 0 in
    let x = slice_index_or set.words 1 0 in
    let y = slice_index_or set.words 2 0 in
    let z = slice_index_or set.words 3 0 in
    let a = le_or_l w x in
    let b = le_or_r w x in
    let c = le_or_l (bit_or w x) y in
    let d = le_or_r (bit_or w x) y in
    let f = le_or_l (bit_or (bit_or w x) y) z in
    let g = le_or_r (bit_or (bit_or w x) y) z in
    each_of_four (λ k. slice_index_or set.words k 0 ≡ 0) (omega arith) (omega arith) (omega arith) (omega arith)

zero_from_test : (n : ℕ) → (n == 0) ≡ true → n ≡ 0
zero_from_test n e = grind arith

-- words without bits hold nothing
pub nothing_where_zero : (set : SetBits) → IsWhole set → (all_bits set == 0) ≡ true → (ordinal : ℕ) → has set ordinal ≡ false
nothing_where_zero set whole e ordinal = zero_holds set whole.four (words_are_zero set (zero_from_test (all_bits set) e)) ordinal (cases_lt ordinal 256)

word_is_zero : (set : SetBits) → IsWhole set → ((ordinal : ℕ) → has set ordinal ≡ false) → (k : ℕ) → k < 4 → slice_index_or set.words k 0 ≡ 0
word_is_zero set whole none k inside = same_from_bits_below 64 (slice_index_or set.words k 0) 0 (whole.small k inside) (lit< tt)
    (λ i low. bit_from_test _ false (bit_at-lt _ i) (sym (has_in_word set k i whole.four inside low) ∙ none (64 * k + i)) ∙ sym (bit_at-zero i))

-- a set that holds nothing has words without bits
pub zero_where_nothing : (set : SetBits) → IsWhole set → ((ordinal : ℕ) → has set ordinal ≡ false) → (all_bits set == 0) ≡ true
zero_where_nothing set whole none = rw (
  word_is_zero set whole none 0 (lit< tt),
  word_is_zero set whole none 1 (lit< tt),
  word_is_zero set whole none 2 (lit< tt),
  word_is_zero set whole none 3 (lit< tt),
) refl

-- ---- inclusion

both_true : (x y : Bool) → (x && y) ≡ true → (x ≡ true) × (y ≡ true)
both_true true true e = (refl, refl)
both_true true false e = cc
both_true false y e = cc

holds_of_next : (test : ℕ → Bool) (bound n : ℕ) → (test bound ≡ true) × (holds_below test bound ≡ true) → (n < bound → test n ≡ true)
    → (n < bound) ⊎ (bound ≤ n) → n < suc bound → test n ≡ true
holds_of_next test bound n both below (inl less) h = below less
holds_of_next test bound n both below (inr more) h = let e : n ≡ bound = omega arith in rw e both.0

pub holds_of_each : (test : ℕ → Bool) (bound : ℕ) → holds_below test bound ≡ true → (n : ℕ) → n < bound → test n ≡ true
unfolding holds_below
holds_of_each test zero e n h = let wrong : ⊥ = omega arith in absurd wrong
holds_of_each test (suc bound) e n h = holds_of_next test bound n (both_true (test bound) (holds_below test bound) e)
    (holds_of_each test bound (both_true (test bound) (holds_below test bound) e).1 n) (cases_lt n bound) h

pub each_holds : (test : ℕ → Bool) (bound : ℕ) → ((n : ℕ) → n < bound → test n ≡ true) → holds_below test bound ≡ true
unfolding holds_below
each_holds test zero each = refl
each_holds test (suc bound) each = rw (each bound (omega arith), each_holds test bound (λ n h. each n (omega arith))) refl

-- one number that fails the test is enough
true_false : (b : Bool) → b ≡ true → b ≡ false → ⊥
true_false b e f = cc

pub fails_at : (test : ℕ → Bool) (bound n : ℕ) → n < bound → test n ≡ false → holds_below test bound ≡ false
fails_at test bound n h e = by (holds_below test bound) refl
  where
    by : (b : Bool) → holds_below test bound ≡ b → b ≡ false
    by true f = absurd (true_false (test n) (holds_of_each test bound f n h) e)
    by false f = refl

-- what a test of inclusion tells of one ordinal of the difference, and the other way round
outside_is_none : (x y : Bool) → (not x || y) ≡ true → (x && not y) ≡ false
outside_is_none true true e = refl
outside_is_none true false e = cc
outside_is_none false y e = refl

none_is_inside : (x y : Bool) → (x && not y) ≡ false → (not x || y) ≡ true
none_is_inside true true e = refl
none_is_inside true false e = cc
none_is_inside false y e = refl

difference_holds_none : (a b : SetBits) → is_included a b ≡ true → (ordinal : ℕ) → (ordinal < 256) ⊎ (256 ≤ ordinal) → has (difference_of a b) ordinal ≡ false
difference_holds_none a b e ordinal (inl low) = has_set_of_low (λ o. has a o && not (has b o)) ordinal low
    ∙ outside_is_none (has a ordinal) (has b ordinal) (holds_of_each (λ o. not (has a o) || has b o) 256 e ordinal low)
difference_holds_none a b e ordinal (inr above) =
    has_above (difference_of a b) ordinal (set_of_four (λ o. has a o && not (has b o))) above

-- the difference holds nothing exactly where the first set is included
pub nothing_outside : (a b : SetBits) → is_included a b ≡ true → (ordinal : ℕ) → has (difference_of a b) ordinal ≡ false
nothing_outside a b e ordinal = difference_holds_none a b e ordinal (cases_lt ordinal 256)

pub included : (a b : SetBits) → ((ordinal : ℕ) → has (difference_of a b) ordinal ≡ false) → is_included a b ≡ true
included a b none = each_holds (λ o. not (has a o) || has b o) 256 (λ o low. none_is_inside (has a o) (has b o)
    (sym (has_set_of_low (λ m. has a m && not (has b m)) o low) ∙ none o))

-- a truth is told by where it holds
pub same_truth : (a b : Bool) → (a ≡ true → b ≡ true) → (b ≡ true → a ≡ true) → a ≡ b
same_truth true b f g = sym (f refl)
same_truth false true f g = g refl
same_truth false false f g = refl

-- ---- whole numbers

not_below_by : (n : ℕ) → ¬ (n < 256) → (n < 256) ⊎ (256 ≤ n) → 256 ≤ n
not_below_by n none (inl low) = absurd (none low)
not_below_by n none (inr above) = above

-- the number of a byte is held where the byte is
pub number_of_byte : (set : SetBits) (n : ℤ) (byte : ℕ) → length set.words ≡ 4 → FitsUnsignedBits 8 n → byte ≡ nat_abs n
    → (bit_and (slice_index_or set.words (byte / 64) 0 / 2 ^ (byte % 64)) 1 == 1) ≡ has_number set n
number_of_byte set (pos n) byte four fits e = rw (shr_and_one (slice_index_or set.words (byte / 64) 0) (byte % 64), e) (sym (has_at set n four fits))
number_of_byte set (negsuc n) byte four fits e = absurd fits

-- no other number is held
pub number_of_none : (set : SetBits) (n : ℤ) → length set.words ≡ 4 → ¬ (FitsUnsignedBits 8 n) → false ≡ has_number set n
number_of_none set (pos n) four none = sym (has_above set n four (not_below_by n none (cases_lt n 256)))
number_of_none set (negsuc n) four none = refl
