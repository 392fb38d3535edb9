-- What a set of stamped addresses has after one more is stamped.
use Rattle.std.proofs.Common.{if◌then◌else◌, ◌<◌, ◌==◌, ◌∙◌, ◌≡◌, ◌≤◌, ℕ, Bool, List, ap, arith, false, inl, inr, length, nat_lt, refl, replicate, slice_index}
use Rattle.std.proofs.Common.{slice_set, suc, sym, true, zero}
use Rattle.std.proofs.lemmas.{Bool.Decides.eqb_tells, Bool.Decides.nat_tests, List.get_or-set_other, List.get_or-set_same, List.get_or_past, List.length-set}
use Rattle.output_slice.specs.Stamps.{AreStamped}

-- a stamp that is set, at each address
pub stamp_at : (stamps : List ℕ) (addr x a : ℕ) → addr < length stamps
    → slice_index (slice_set stamps addr x) a ≡ (if addr == a then x else slice_index stamps a)
stamp_at stamps addr x a h = elim (eqb_tells addr a) [
  | inl s ↦ ap (slice_index (slice_set stamps addr x)) (sym s.1) ∙ get_or-set_same stamps addr x 0 h
      ∙ sym (ap (λ b. if b then x else slice_index stamps a) s.0)
  | inr s ↦ get_or-set_other stamps addr a x 0 (λ e. s.1 (sym e)) ∙ sym (ap (λ b. if b then x else slice_index stamps a) s.0)
]

self_eq : (n : ℕ) → (n == n) ≡ true
self_eq n = grind (arith, nat_tests)

less_eq : (n k : ℕ) → n < k → (n == k) ≡ false
less_eq n k h = grind (arith, nat_tests)

-- an address is put in
pub stamped_in : (stamps : List ℕ) (stamp addr a : ℕ) → addr < length stamps
    → (slice_index (slice_set stamps addr stamp) a == stamp) ≡ (if addr == a then true else slice_index stamps a == stamp)
stamped_in stamps stamp addr a h = ap (λ x. x == stamp) (stamp_at stamps addr stamp a h) ∙ by (addr == a)
  where
    by : (b : Bool) → ((if b then stamp else slice_index stamps a) == stamp) ≡ (if b then true else slice_index stamps a == stamp)
    by true = self_eq stamp
    by false = refl

-- or taken out
pub stamped_out : (stamps : List ℕ) (stamp addr a : ℕ) → addr < length stamps → 0 < stamp
    → (slice_index (slice_set stamps addr 0) a == stamp) ≡ (if addr == a then false else slice_index stamps a == stamp)
stamped_out stamps stamp addr a h k = ap (λ x. x == stamp) (stamp_at stamps addr 0 a h) ∙ by (addr == a)
  where
    by : (b : Bool) → ((if b then 0 else slice_index stamps a) == stamp) ≡ (if b then false else slice_index stamps a == stamp)
    by true = less_eq 0 stamp k
    by false = refl

-- they are stamps of the set still
pub still_stamped : (stamps : List ℕ) (stamp addr x : ℕ) → addr < length stamps → x ≤ stamp → AreStamped stamps stamp
    → AreStamped (slice_set stamps addr x) stamp
still_stamped stamps stamp addr x h k s = record {
  each = length-set stamps addr x ∙ s.each;
  some = s.some;
  earlier = λ a. by a (addr == a) (stamp_at stamps addr x a h);
}
  where
    by : (a : ℕ) (b : Bool) → slice_index (slice_set stamps addr x) a ≡ (if b then x else slice_index stamps a)
        → slice_index (slice_set stamps addr x) a ≤ stamp
    by a true e = omega (arith, e, k)
    by a false e = omega (arith, e, s.earlier a)

-- with a later stamp the set has none, and the stamps are of that set
pub none_later : (stamps : List ℕ) (stamp later a : ℕ) → AreStamped stamps stamp → stamp < later → (slice_index stamps a == later) ≡ false
none_later stamps stamp later a s h = less_eq (slice_index stamps a) later (omega (arith, s.earlier a, h))

pub later_stamped : (stamps : List ℕ) (stamp later : ℕ) → AreStamped stamps stamp → stamp < later → AreStamped stamps later
later_stamped stamps stamp later s h = record {
  each = s.each;
  some = omega (arith, h);
  earlier = λ a. omega (arith, s.earlier a, h);
}

-- no stamps at all
pub no_stamp : (n a : ℕ) → slice_index (replicate n 0) a ≡ 0
no_stamp zero a = refl
no_stamp (suc n) zero = refl
no_stamp (suc n) (suc a) = no_stamp n a

-- so they are those of a set that has none
pub blank_stamped : (stamps : List ℕ) → length stamps ≡ 1048576 → ((a : ℕ) → slice_index stamps a ≡ 0) → AreStamped stamps 1
blank_stamped stamps e h = record { each = e; some = omega arith; earlier = λ a. omega (arith, h a) }

pub blank_has_none : (stamps : List ℕ) → ((a : ℕ) → slice_index stamps a ≡ 0) → (a : ℕ) → (slice_index stamps a == 1) ≡ false
blank_has_none stamps h a = ap (λ x. x == 1) (h a)

-- an address above all is in no set, and stays as it was
pub past_end : (stamps : List ℕ) (stamp addr : ℕ) → AreStamped stamps stamp → 1048576 ≤ addr → nat_lt addr 1048576 ≡ (slice_index stamps addr == stamp)
past_end stamps stamp addr s h =
    let z : nat_lt addr 1048576 ≡ false = grind (arith, nat_tests) in
    z ∙ sym (ap (λ x. x == stamp) (get_or_past stamps addr 0 (omega (arith, s.each, h))) ∙ less_eq 0 stamp s.some)

pub not_there : (addr a end : ℕ) (new old : Bool) → end ≤ addr → a < end → old ≡ (if addr == a then new else old)
not_there addr a end new old h k = sym (ap (λ b. if b then new else old) (let z : (addr == a) ≡ false = grind (arith, nat_tests) in z))
