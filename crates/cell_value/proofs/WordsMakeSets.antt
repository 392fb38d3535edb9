-- A set's words, and the set of the ordinals of which a test holds.
use Rattle.std.proofs.Common.{◌%◌, ◌&&◌, ◌*◌, ◌+◌, ◌-◌, ◌/◌, ◌<◌, ◌==◌, ◌^◌, ◌||◌, ◌∙◌, ◌∷◌, ◌≡◌, ◌≤◌, ◌⊎◌, [], ℕ, Bool, List, ap, arith, bit_and, bit_or, cond}
use Rattle.std.proofs.Common.{false, inl, inr, length, lit<, max, min, not, refl, slice_index_or, subst, suc, sym, true, w64, zero, zero-add}
use Rattle.std.proofs.{Math.Nat.pow-suc, lemmas.Bool.cases_lt, lemmas.Nat.or_lt, lemmas.Option.slice_get-get_or, lemmas.Option.slice_get_past}
use Rattle.std.proofs.lemmas.Nat.Bits.{bit_at-lt, bit_at_and, bit_at_cat_high, bit_at_cat_low, bit_at_not, bit_at_or, same_from_bits_below}
use Rattle.std.specs.Int.{bit_at, Bits.and_lt}
use Rattle.cell_value.specs.{Sets.bits_where, Sets.has, Sets.set_of, declared.values.SetBits.SetBits}

-- ---- one bit

-- a test of a bit tells the bit
pub bit_from_test : (bit : ℕ) (b : Bool) → bit < 2 → (bit == 1) ≡ b → bit ≡ cond b 1 0
bit_from_test zero true h e = cc
bit_from_test zero false h e = refl
bit_from_test (suc zero) true h e = refl
bit_from_test (suc zero) false h e = cc
bit_from_test (suc (suc n)) b h e = let wrong : ⊥ = omega arith in absurd wrong

test_of_bit : (b : Bool) → (cond b 1 0 == 1) ≡ b
test_of_bit true = refl
test_of_bit false = refl

-- ---- the number whose bits a test gives

word_of_next : (b : Bool) (x n : ℕ) → x < n → cond b 1 0 * n + x < n * 2
word_of_next true x n h = omega arith
word_of_next false x n h = omega arith

pub word_of_small : (test : ℕ → Bool) (bits : ℕ) → bits_where test bits < 2 ^ bits
unfolding bits_where
word_of_small test zero = lit< tt
word_of_small test (suc place) = rw (pow-suc 2 place) (word_of_next (test place) _ _ (word_of_small test place))

last_bit : (b : Bool) (n : ℕ) → bit_at (cond b 1 0) (n - n) ≡ cond b 1 0
last_bit true n = let e : n - n ≡ 0 = omega arith in rw e refl
last_bit false n = let e : n - n ≡ 0 = omega arith in rw e refl

-- in front of a word's bits stands its last
word_of_at : (test : ℕ → Bool) (place i : ℕ) → (i < place → bit_at (bits_where test place) i ≡ cond (test i) 1 0) → (i < place) ⊎ (place ≤ i) → i < suc place
    → bit_at (cond (test place) 1 0 * 2 ^ place + bits_where test place) i ≡ cond (test i) 1 0
word_of_at test place i below (inl less) h = bit_at_cat_low (cond (test place) 1 0) place (bits_where test place) i less ∙ below less
word_of_at test place i below (inr more) h =
    let e : i ≡ place = omega arith in
    rw e (bit_at_cat_high (cond (test place) 1 0) place (bits_where test place) place (word_of_small test place) (omega arith) ∙ last_bit (test place) place)

pub word_of_bit : (test : ℕ → Bool) (bits i : ℕ) → i < bits → bit_at (bits_where test bits) i ≡ cond (test i) 1 0
unfolding bits_where
word_of_bit test zero i h = let wrong : ⊥ = omega arith in absurd wrong
word_of_bit test (suc place) i h = word_of_at test place i (word_of_bit test place i) (cases_lt i place) h

-- a word of 64 bits is the number whose bits a test gives that holds where they are set
pub the_word : (word : ℕ) (test : ℕ → Bool) → word < 2 ^ 64 → ((i : ℕ) → i < 64 → (bit_at word i == 1) ≡ test i) → word ≡ bits_where test 64
the_word word test small each = same_from_bits_below 64 word (bits_where test 64) small (word_of_small test 64)
    (λ i inside. bit_from_test (bit_at word i) (test i) (bit_at-lt word i) (each i inside) ∙ sym (word_of_bit test 64 i inside))

-- ---- the words of a set

-- what is known of a set's words
pub record IsWhole (set : SetBits) : Type 0 where
  pub four : length set.words ≡ 4
  pub small : (k : ℕ) → k < 4 → slice_index_or set.words k 0 < 2 ^ 64

pub each_of_four : (P : ℕ → Type 0) → P 0 → P 1 → P 2 → P 3 → (k : ℕ) → k < 4 → P k
each_of_four P p0 p1 p2 p3 zero h = p0
each_of_four P p0 p1 p2 p3 (suc zero) h = p1
each_of_four P p0 p1 p2 p3 (suc (suc zero)) h = p2
each_of_four P p0 p1 p2 p3 (suc (suc (suc zero))) h = p3
each_of_four P p0 p1 p2 p3 (suc (suc (suc (suc k)))) h = let wrong : ⊥ = omega arith in absurd wrong

-- a set holds an ordinal where the bit is set in its word
pub has_at : (set : SetBits) (ordinal : ℕ) → length set.words ≡ 4 → ordinal < 256
    → has set ordinal ≡ (bit_at (slice_index_or set.words (ordinal / 64) 0) (ordinal % 64) == 1)
has_at set ordinal four low = rw (slice_get-get_or set.words (ordinal / 64) 0 (omega arith)) refl

pub has_in_word : (set : SetBits) (k i : ℕ) → length set.words ≡ 4 → k < 4 → i < 64 → has set (64 * k + i) ≡ (bit_at (slice_index_or set.words k 0) i == 1)
has_in_word set k i four inside low =
    let word : (64 * k + i) / 64 ≡ k = omega arith in
    let place : (64 * k + i) % 64 ≡ i = omega arith in
    rw (word, place, slice_get-get_or set.words k 0 (omega arith)) refl

-- no set holds an ordinal above 255
pub has_above : (set : SetBits) (ordinal : ℕ) → length set.words ≡ 4 → 256 ≤ ordinal → has set ordinal ≡ false
has_above set ordinal four above = rw (slice_get_past set.words (ordinal / 64) (omega arith)) refl

-- a list of four words
abbrev four_words : (ℕ → ℕ) → List ℕ
four_words word = word 0 ∷ word 1 ∷ word 2 ∷ word 3 ∷ []

-- a set of four words is that of the test that holds where their bits are set
pub the_set : (word : ℕ → ℕ) (test : ℕ → Bool) → ((k : ℕ) → k < 4 → word k < 2 ^ 64)
    → ((k i : ℕ) → k < 4 → i < 64 → (bit_at (word k) i == 1) ≡ test (64 * k + i)) → record { words = four_words word } ≡ set_of test
unfolding set_of
the_set word test small each =
    let first = the_word (word 0) test (small 0 (lit< tt)) (λ i low. rw (zero-add i) at (each 0 i (lit< tt) low)) in
    let second = the_word (word 1) (λ i. test (64 + i)) (small 1 (lit< tt)) (λ i low. each 1 i (lit< tt) low) in
    let third = the_word (word 2) (λ i. test (128 + i)) (small 2 (lit< tt)) (λ i low. each 2 i (lit< tt) low) in
    let fourth = the_word (word 3) (λ i. test (192 + i)) (small 3 (lit< tt)) (λ i low. each 3 i (lit< tt) low) in
    cc

-- ---- the operators

-- what an operator does to words, and what it does to the tests of which ordinals are held
pub record Joins (on_words : ℕ → ℕ → ℕ) (on_tests : Bool → Bool → Bool) : Type 0 where
  pub small : (x y : ℕ) → x < 2 ^ 64 → y < 2 ^ 64 → on_words x y < 2 ^ 64
  pub bits : (x y i : ℕ) → x < 2 ^ 64 → y < 2 ^ 64 → i < 64 → (bit_at (on_words x y) i == 1) ≡ on_tests (bit_at x i == 1) (bit_at y i == 1)
  pub none : on_tests false false ≡ false

-- what the operator gives, word by word
abbrev pub joined : (ℕ → ℕ → ℕ) → SetBits → SetBits → SetBits
joined on_words a b = record { words = four_words (λ k. on_words (slice_index_or a.words k 0) (slice_index_or b.words k 0)) }

pub joined_is : (on_words : ℕ → ℕ → ℕ) (on_tests : Bool → Bool → Bool) (a b : SetBits) → Joins on_words on_tests → IsWhole a → IsWhole b
    → joined on_words a b ≡ set_of (λ ordinal. on_tests (has a ordinal) (has b ordinal))
joined_is on_words on_tests a b joins of_a of_b = the_set
    (λ k. on_words (slice_index_or a.words k 0) (slice_index_or b.words k 0))
    (λ ordinal. on_tests (has a ordinal) (has b ordinal))
    (λ k inside. joins.small _ _ (of_a.small k inside) (of_b.small k inside))
    (λ k i inside low. rw (has_in_word a k i of_a.four inside low, has_in_word b k i of_b.four inside low)
    (joins.bits _ _ i (of_a.small k inside) (of_b.small k inside) low))

-- the set of a test has the bits of the ordinals of which it holds
set_of_bit : (test : ℕ → Bool) (i : ℕ) → i < 64 → (k : ℕ) → k < 4 → (bit_at (slice_index_or (set_of test).words k 0) i == 1) ≡ test (64 * k + i)
unfolding set_of
set_of_bit test i low = each_of_four (λ k. (bit_at (slice_index_or (set_of test).words k 0) i == 1) ≡ test (64 * k + i))
    (rw (word_of_bit test 64 i low, zero-add i) (test_of_bit (test i)))
    (rw (word_of_bit (λ place. test (64 + place)) 64 i low) (test_of_bit (test (64 + i))))
    (rw (word_of_bit (λ place. test (128 + place)) 64 i low) (test_of_bit (test (128 + i))))
    (rw (word_of_bit (λ place. test (192 + place)) 64 i low) (test_of_bit (test (192 + i))))

pub set_of_four : (test : ℕ → Bool) → length (set_of test).words ≡ 4
unfolding set_of
set_of_four test = refl

pub has_set_of_low : (test : ℕ → Bool) (ordinal : ℕ) → ordinal < 256 → has (set_of test) ordinal ≡ test ordinal
has_set_of_low test ordinal low =
    let e : 64 * (ordinal / 64) + ordinal % 64 ≡ ordinal = omega arith in
    subst (λ n. has (set_of test) n ≡ test n) e
    (has_in_word (set_of test) (ordinal / 64) (ordinal % 64) (set_of_four test) (omega arith) (omega arith)
    ∙ set_of_bit test (ordinal % 64) (omega arith) (ordinal / 64) (omega arith))

-- the set of a test that holds of none above 255 holds what passes the test
has_set_of_by : (test : ℕ → Bool) → ((ordinal : ℕ) → 256 ≤ ordinal → test ordinal ≡ false) → (ordinal : ℕ) → (ordinal < 256) ⊎ (256 ≤ ordinal)
    → has (set_of test) ordinal ≡ test ordinal
has_set_of_by test none ordinal (inl low) = has_set_of_low test ordinal low
has_set_of_by test none ordinal (inr above) = has_above (set_of test) ordinal (set_of_four test) above ∙ sym (none ordinal above)

pub has_set_of : (test : ℕ → Bool) → ((ordinal : ℕ) → 256 ≤ ordinal → test ordinal ≡ false) → (ordinal : ℕ) → has (set_of test) ordinal ≡ test ordinal
has_set_of test none ordinal = has_set_of_by test none ordinal (cases_lt ordinal 256)

pub joined_has : (on_words : ℕ → ℕ → ℕ) (on_tests : Bool → Bool → Bool) (a b : SetBits) → Joins on_words on_tests → IsWhole a → IsWhole b
    → (ordinal : ℕ) → has (joined on_words a b) ordinal ≡ on_tests (has a ordinal) (has b ordinal)
joined_has on_words on_tests a b joins of_a of_b ordinal = ap (λ set. has set ordinal) (joined_is on_words on_tests a b joins of_a of_b)
    ∙ has_set_of (λ o. on_tests (has a o) (has b o)) (λ o above. rw (has_above a o of_a.four above, has_above b o of_b.four above) joins.none) ordinal

greater_bit : (m n : ℕ) → m < 2 → n < 2 → (max m n == 1) ≡ (m == 1 || n == 1)
greater_bit zero zero h k = refl
greater_bit zero (suc zero) h k = refl
greater_bit (suc zero) zero h k = refl
greater_bit (suc zero) (suc zero) h k = refl
greater_bit (suc (suc m)) n h k = let wrong : ⊥ = omega arith in absurd wrong
greater_bit m (suc (suc n)) h k = let wrong : ⊥ = omega arith in absurd wrong

lesser_bit : (m n : ℕ) → m < 2 → n < 2 → (min m n == 1) ≡ (m == 1 && n == 1)
lesser_bit zero zero h k = refl
lesser_bit zero (suc zero) h k = refl
lesser_bit (suc zero) zero h k = refl
lesser_bit (suc zero) (suc zero) h k = refl
lesser_bit (suc (suc m)) n h k = let wrong : ⊥ = omega arith in absurd wrong
lesser_bit m (suc (suc n)) h k = let wrong : ⊥ = omega arith in absurd wrong

other_bit : (m n : ℕ) → m < 2 → n < 2 → (min m (1 - n) == 1) ≡ (m == 1 && not (n == 1))
other_bit zero zero h k = refl
other_bit zero (suc zero) h k = refl
other_bit (suc zero) zero h k = refl
other_bit (suc zero) (suc zero) h k = refl
other_bit (suc (suc m)) n h k = let wrong : ⊥ = omega arith in absurd wrong
other_bit m (suc (suc n)) h k = let wrong : ⊥ = omega arith in absurd wrong

pub union_joins : Joins bit_or (λ a b. a || b)
union_joins = record {
  small = or_lt 64;
  bits = λ x y i _ _ _. rw (bit_at_or x y i) (greater_bit _ _ (bit_at-lt x i) (bit_at-lt y i));
  none = refl;
}

pub intersection_joins : Joins bit_and (λ a b. a && b)
intersection_joins = record {
  small = and_lt 64;
  bits = λ x y i _ _ _. rw (bit_at_and x y i) (lesser_bit _ _ (bit_at-lt x i) (bit_at-lt y i));
  none = refl;
}

pub difference_joins : Joins (λ x y. bit_and x (18446744073709551615 - y)) (λ a b. a && not b)
difference_joins = record {
  small = λ x y h k. and_lt 64 x _ h (omega arith);
  bits = λ x y i _ k low. rw (bit_at_and x (18446744073709551615 - y) i, bit_at_not w64 y i k low) (other_bit _ _ (bit_at-lt x i) (bit_at-lt y i));
  none = refl;
}
