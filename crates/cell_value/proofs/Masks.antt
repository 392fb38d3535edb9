-- Words of which the first bits are set, and the set of the ordinals below a bound.
use Rattle.std.proofs.Common.{◌%◌, ◌&&◌, ◌*◌, ◌+◌, ◌-◌, ◌<◌, ◌^◌, ◌∙◌, ◌∷◌, ◌≡◌, ◌≤◌, ◌⊎◌, [], ℕ, ℤ, Bool, ap, arith, false, inl, inr, int_le, nat_le, nat_lt}
use Rattle.std.proofs.Common.{not, pos, refl, suc, sym, true, zero}
use Rattle.std.proofs.{Math.Nat.pow-suc, Math.Pow.pow-lt, lemmas.Bool.cases_lt}
use Rattle.cell_value.proofs.WordsMakeSets.{has_set_of}
use Rattle.cell_value.specs.Sets.{bits_where, has, holds_below, is_between, is_included, is_outside_or_between, lies_between, set_of}
use Rattle.cell_value.specs.declared.values.SetBits.{SetBits}

pub is_below : (n count : ℕ) → n < count → nat_lt n count ≡ true
is_below n count h = grind arith

pub is_not_below : (n count : ℕ) → count ≤ n → nat_lt n count ≡ false
is_not_below n count h = grind arith

-- ---- words

word_of_first : (count bits : ℕ) → bits ≤ count → bits_where (λ place. nat_lt place count) bits + 1 ≡ 2 ^ bits
unfolding bits_where
word_of_first count zero h = refl
word_of_first count (suc n) h =
    let before = word_of_first count n (omega arith) in
    rw (is_below n count (omega arith), pow-suc 2 n) (omega (arith, before))

word_past_by : (count n : ℕ) → (count ≤ n → bits_where (λ place. nat_lt place count) n + 1 ≡ 2 ^ count) → count ≤ suc n
    → (n < count) ⊎ (count ≤ n) → bits_where (λ place. nat_lt place count) (suc n) + 1 ≡ 2 ^ count
unfolding bits_where
word_past_by count n before h (inl less) =
    let e : suc n ≡ count = omega arith in
    word_of_first count (suc n) (omega arith) ∙ ap (λ k. 2 ^ k) e
word_past_by count n before h (inr more) = let here = before more in rw (is_not_below n count more) (omega (arith, here))

word_past : (count bits : ℕ) → count ≤ bits → bits_where (λ place. nat_lt place count) bits + 1 ≡ 2 ^ count
unfolding bits_where
word_past zero zero h = refl
word_past (suc count) zero h = let wrong : ⊥ = omega arith in absurd wrong
word_past count (suc n) h = word_past_by count n (word_past count n) h (cases_lt n count)

word_same : (f g : ℕ → Bool) → ((place : ℕ) → f place ≡ g place) → (bits : ℕ) → bits_where f bits ≡ bits_where g bits
unfolding bits_where
word_same f g same zero = refl
word_same f g same (suc n) = rw (same n, word_same f g same n) refl

-- the word of which this many bits are set, from the first on
pub first_bits : (count : ℕ) → count < 64 → 1 * 2 ^ count % 18446744073709551616 - 1 ≡ bits_where (λ place. nat_lt place count) 64
first_bits count h =
    let all = word_past count 64 (omega arith) in
    let small : 2 ^ count < 18446744073709551616 = pow-lt h in
    omega (arith, all, small)

pub all_bits : (count : ℕ) → 64 ≤ count → 18446744073709551615 ≡ bits_where (λ place. nat_lt place count) 64
all_bits count h = let all = word_of_first count 64 h in omega (arith, all)

-- ---- sets

less_by : (by n bound : ℕ) → (by + n < bound) ⊎ (bound ≤ by + n) → nat_lt n (bound - by) ≡ nat_lt (by + n) bound
less_by by n bound (inl low) = is_below n (bound - by) (omega arith) ∙ sym (is_below (by + n) bound low)
less_by by n bound (inr high) = is_not_below n (bound - by) (omega arith) ∙ sym (is_not_below (by + n) bound high)

word_moved : (by bound : ℕ) → bits_where (λ place. nat_lt place (bound - by)) 64 ≡ bits_where (λ place. nat_lt (by + place) bound) 64
word_moved by bound = word_same _ _ (λ n. less_by by n bound (cases_lt (by + n) bound)) 64

-- the four words of the set of the ordinals below a bound
pub below_is : (bound : ℕ) → record {
  words = bits_where (λ place. nat_lt place bound) 64 ∷ bits_where (λ place. nat_lt place (bound - 64)) 64
      ∷ bits_where (λ place. nat_lt place (bound - 128)) 64 ∷ bits_where (λ place. nat_lt place (bound - 192)) 64 ∷ [];
} ≡ set_of (λ ordinal. nat_lt ordinal bound)
unfolding set_of
below_is bound = rw (word_moved 64 bound, word_moved 128 bound, word_moved 192 bound) refl

pub below_has : (bound : ℕ) → bound ≤ 256 → (ordinal : ℕ) → has (set_of (λ n. nat_lt n bound)) ordinal ≡ nat_lt ordinal bound
below_has bound small = has_set_of (λ n. nat_lt n bound) (λ n above. is_not_below n bound (omega arith))

-- the ordinals below the one after a last one, without those below a first one
pub between_of_below : (least greatest ordinal : ℕ) → (nat_lt ordinal (greatest + 1) && not (nat_lt ordinal least)) ≡ is_between least greatest ordinal
between_of_below least greatest ordinal = by (cases_lt ordinal (greatest + 1)) (cases_lt ordinal least)
  where
    by : (ordinal < greatest + 1) ⊎ (greatest + 1 ≤ ordinal) → (ordinal < least) ⊎ (least ≤ ordinal)
        → (nat_lt ordinal (greatest + 1) && not (nat_lt ordinal least)) ≡ is_between least greatest ordinal
    by (inl a) (inl b) = grind (arith, a, b)
    by (inl a) (inr b) = grind (arith, a, b)
    by (inr a) (inl b) = grind (arith, a, b)
    by (inr a) (inr b) = grind (arith, a, b)

-- ---- inclusion in what lies between two bounds

below_same : (f g : ℕ → Bool) (n : ℕ) → ((k : ℕ) → k < n → f k ≡ g k) → holds_below f n ≡ holds_below g n
unfolding holds_below
below_same f g zero same = refl
below_same f g (suc n) same = rw (same n (omega arith), below_same f g n (λ k h. same k (omega arith))) refl

not_lt : (first n : ℕ) → not (nat_lt n first) ≡ nat_le first n
not_lt first n = by (cases_lt n first)
  where
    by : (n < first) ⊎ (first ≤ n) → not (nat_lt n first) ≡ nat_le first n
    by (inl a) = grind (arith, a)
    by (inr a) = grind (arith, a)

swapped : (a b : Bool) → (a && b) ≡ (b && a)
swapped true true = refl
swapped true false = refl
swapped false true = refl
swapped false false = refl

-- where the set of bounds holds what lies between them
pub included_is_between : (set bounds : SetBits) (least greatest : ℤ) → ((ordinal : ℕ) → ordinal < 256
    → has bounds ordinal ≡ (int_le (pos ordinal) greatest && int_le least (pos ordinal)))
    → is_included set bounds ≡ lies_between set least greatest
included_is_between set bounds least greatest each = below_same _ (is_outside_or_between set least greatest) 256
    (λ n h. rw (each n h, swapped (int_le (pos n) greatest) (int_le least (pos n))) refl)

pub bounds_of_below : (bounds : SetBits) (first end : ℕ) (least greatest : ℤ)
    → ((ordinal : ℕ) → has bounds ordinal ≡ (nat_lt ordinal end && not (nat_lt ordinal first)))
    → ((ordinal : ℕ) → ordinal < 256 → nat_le first ordinal ≡ int_le least (pos ordinal))
    → ((ordinal : ℕ) → ordinal < 256 → nat_lt ordinal end ≡ int_le (pos ordinal) greatest) → (ordinal : ℕ) → ordinal < 256
    → has bounds ordinal ≡ (int_le (pos ordinal) greatest && int_le least (pos ordinal))
bounds_of_below bounds first end least greatest holds low high ordinal h =
    holds ordinal ∙ rw (not_lt first ordinal, low ordinal h, high ordinal h) refl
