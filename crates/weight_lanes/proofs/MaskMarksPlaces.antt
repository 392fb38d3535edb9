-- What the bits of a mask say of the places of a block.
use Rattle.std.proofs.Common.{◌%◌, ◌+◌, ◌-◌, ◌<◌, ◌^◌, ◌↔◌, ◌∙◌, ◌≡◌, ◌≢◌, ◌≤◌, ℕ, ⊎_elim, Bool, List, ap, arith, bit_and, cond, eq-eqb, eqb, false, get_or}
use Rattle.std.proofs.Common.{length, map, not, refl, subst, sym, true, w32}
use Rattle.std.proofs.lemmas.{Bool.cases_lt, Bool.eqb-true, List.get_or-map, List.length-map}
use Rattle.std.proofs.lemmas.Nat.Bits.{bit_at-lt, bit_at-zero, bit_at_above, bit_at_and}
use Rattle.std.proofs.lemmas.Simd.{bit_mask_l, get_or-zip2, length-zip2, mask_l-lt, mask_l-mod, tops_compared}
use Rattle.std.specs.{Int.bit_at, Simd.Lanes.mask_l, Simd.Lanes.top, Simd.Lanes.zip2}
use Rattle.weight_lanes.specs.Lanes.{MarksLanes, NoneIn}

pub NoneIn-join : (Q : ℕ → Type 0) (a b c : ℕ) → NoneIn Q a b → NoneIn Q b c → NoneIn Q a c
NoneIn-join Q a b c first second = record {
  none = λ place low high. ⊎_elim (λ l. first.none place low l) (λ ge. second.none place ge high) (cases_lt place b);
}

bit_inside : (p : ℕ → Bool) (xs : List ℕ) (lane : ℕ) → lane < length xs → bit_at (mask_l (map p xs)) lane ≡ cond (p (get_or xs lane 0)) 1 0
bit_inside p xs lane inside = bit_mask_l (map p xs) lane ∙ ap (λ b. cond b 1 0) (get_or-map p xs lane 0 false inside)

bit_outside : (p : ℕ → Bool) (xs : List ℕ) (lane : ℕ) → length xs ≤ lane → bit_at (mask_l (map p xs)) lane ≡ 0
bit_outside p xs lane outside =
    let short : mask_l (map p xs) < 2 ^ length xs = subst (λ n. mask_l (map p xs) < 2 ^ n) (length-map xs p) (mask_l-lt (map p xs)) in
    bit_at_above (mask_l (map p xs)) (length xs) lane short outside

one_is_true : (b : Bool) → cond {A = ℕ} b 1 0 ≡ 1 → b ≡ true
one_is_true true e = refl
one_is_true false e = absurd (omega arith)

set_is_inside : (p : ℕ → Bool) (xs : List ℕ) (lane : ℕ) → bit_at (mask_l (map p xs)) lane ≡ 1 → lane < length xs
set_is_inside p xs lane set = ⊎_elim (λ l. l) (λ ge. absurd (omega (arith, bit_outside p xs lane ge))) (cases_lt lane (length xs))

set_passes : (p : ℕ → Bool) (xs : List ℕ) (lane : ℕ) → bit_at (mask_l (map p xs)) lane ≡ 1 → p (get_or xs lane 0) ≡ true
set_passes p xs lane set = one_is_true _ (sym (bit_inside p xs lane (set_is_inside p xs lane set)) ∙ set)

-- the mask of the lanes that pass a test
pub Marks-mask_l : (P : ℕ → Type 0) (p : ℕ → Bool) (xs : List ℕ) (n : ℕ) → length xs ≡ n
    → ((lane : ℕ) → lane < n → P lane → p (get_or xs lane 0) ≡ true)
    → ((lane : ℕ) → lane < n → p (get_or xs lane 0) ≡ true → P lane)
    → MarksLanes P n (mask_l (map p xs))
Marks-mask_l P p xs n long passes means =
    let inside = λ (lane : ℕ) (set : bit_at (mask_l (map p xs)) lane ≡ 1). subst (λ m. lane < m) long (set_is_inside p xs lane set) in
    record {
      marked = λ lane l h. bit_inside p xs lane (omega arith) ∙ ap (λ b. cond b 1 0) (passes lane l h);
      inside = inside;
      holds = λ lane set. means lane (inside lane set) (set_passes p xs lane set);
    }

-- `to_bitmask` of the comparison t of two vectors
pub bitmask_compared : (t : ℕ → ℕ → Bool) (xs ys : List ℕ) (n : ℕ) → length xs ≡ n → length ys ≡ n → n ≤ 64
    → mask_l (map (top 31) (zip2 (λ a b. cond (t a b) (2 ^ 32 - 1) 0) xs ys)) % 2 ^ 64 ≡ mask_l (zip2 t xs ys)
bitmask_compared t xs ys n p q le =
    ap (λ ms. mask_l ms % 2 ^ 64) (tops_compared w32 t xs ys) ∙ mask_l-mod (zip2 t xs ys) 64 (omega (arith, length-zip2 t xs ys (p ∙ sym q)))

-- the mask of the lanes of two vectors that compare so
pub Marks-zip2 : (P : ℕ → Type 0) (t : ℕ → ℕ → Bool) (xs ys : List ℕ) (n : ℕ) → length xs ≡ n → length ys ≡ n
    → ((lane : ℕ) → lane < n → P lane → t (get_or xs lane 0) (get_or ys lane 0) ≡ true)
    → ((lane : ℕ) → lane < n → t (get_or xs lane 0) (get_or ys lane 0) ≡ true → P lane)
    → MarksLanes P n (mask_l (zip2 t xs ys))
Marks-zip2 P t xs ys n p q passes means =
    let ms = zip2 t xs ys in
    let long : length ms ≡ n = length-zip2 t xs ys (p ∙ sym q) ∙ p in
    let at : (lane : ℕ) → lane < n → get_or ms lane false ≡ t (get_or xs lane 0) (get_or ys lane 0) =
    λ lane l. get_or-zip2 t xs ys lane 0 0 false (omega arith) (omega arith) in
    let short : mask_l ms < 2 ^ n = subst (λ k. mask_l ms < 2 ^ k) long (mask_l-lt ms) in
    let inside : (lane : ℕ) → bit_at (mask_l ms) lane ≡ 1 → lane < n =
    λ lane set. ⊎_elim (λ l. l) (λ ge. absurd (omega (arith, bit_at_above (mask_l ms) n lane short ge))) (cases_lt lane n) in
    record {
      marked = λ lane l h. bit_mask_l ms lane ∙ ap (λ b. cond b 1 0) (at lane l ∙ passes lane l h);
      inside = inside;
      holds = λ lane set. means lane (inside lane set) (sym (at lane (inside lane set)) ∙ one_is_true _ (sym (bit_mask_l ms lane) ∙ set));
    }

-- the same lanes by another property
pub Marks-same : (P Q : ℕ → Type 0) (n mask : ℕ) → ((lane : ℕ) → lane < n → P lane → Q lane) → ((lane : ℕ) → lane < n → Q lane → P lane)
    → MarksLanes P n mask → MarksLanes Q n mask
Marks-same P Q n mask to from marks = record {
  marked = λ lane l h. marks.marked lane l (from lane l h);
  inside = marks.inside;
  holds = λ lane set. to lane (marks.inside lane set) (marks.holds lane set);
}

-- the lanes that two masks mark
pub Marks-both : (P Q : ℕ → Type 0) (n a b : ℕ) → MarksLanes P n a → MarksLanes Q n b → MarksLanes (λ lane. P lane × Q lane) n (bit_and a b)
Marks-both P Q n a b first second =
    let both : (lane : ℕ) → bit_at (bit_and a b) lane ≡ 1 → (bit_at a lane ≡ 1) × (bit_at b lane ≡ 1) =
    λ lane set. let m = bit_at_and a b lane in
    let l = bit_at-lt a lane in
    let k = bit_at-lt b lane in
    (omega arith, omega arith) in
    record {
      marked = λ lane l h. let p = first.marked lane l h.0 in
          let q = second.marked lane l h.1 in
          omega (arith, bit_at_and a b lane);
      inside = λ lane set. first.inside lane (both lane set).0;
      holds = λ lane set. (first.holds lane (both lane set).0, second.holds lane (both lane set).1);
    }

-- where no lane has a property, none has one from which it follows
pub Marks-no_first : (P Q : ℕ → Type 0) (n mask : ℕ) → ((lane : ℕ) → Q lane → P lane) → MarksLanes P n mask → mask ≡ 0 → MarksLanes Q n 0
Marks-no_first P Q n mask follows marks zero = record {
  marked = λ lane l h.
      let set : bit_at mask lane ≡ 1 = marks.marked lane l (follows lane h) in
      let clear : bit_at mask lane ≡ 0 = ap (λ m. bit_at m lane) zero ∙ bit_at-zero lane in
      absurd (omega arith);
  inside = λ lane set. absurd (omega (arith, bit_at-zero lane));
  holds = λ lane set. absurd (omega (arith, bit_at-zero lane));
}

-- a place of the block as a lane
lane_of : (Q : ℕ → Type 0) (at place : ℕ) → at ≤ place → Q place → Q (at + (place - at))
lane_of Q at place low h = let e : place ≡ at + (place - at) = omega arith in subst Q e h

-- with no bit set
pub none_marked : (Q : ℕ → Type 0) (at to n mask : ℕ) → to ≡ at + n → MarksLanes (λ lane. Q (at + lane)) n mask → mask ≡ 0 → NoneIn Q at to
none_marked Q at to n mask ends marks zero = record {
  none = λ place low high h.
      let set : bit_at mask (place - at) ≡ 1 = marks.marked (place - at) (omega arith) (lane_of Q at place low h) in
      let clear : bit_at mask (place - at) ≡ 0 = ap (λ m. bit_at m (place - at)) zero ∙ bit_at-zero (place - at) in
      absurd (omega arith);
}

-- before the lowest set bit
pub none_before : (Q : ℕ → Type 0) (at n mask bit : ℕ) → MarksLanes (λ lane. Q (at + lane)) n mask → bit_at mask bit ≡ 1
    → ((k : ℕ) → k < bit → bit_at mask k ≡ 0) → NoneIn Q at (at + bit)
none_before Q at n mask bit marks set below = record {
  none = λ place low high h.
      let small : bit < n = marks.inside bit set in
      let one : bit_at mask (place - at) ≡ 1 = marks.marked (place - at) (omega arith) (lane_of Q at place low h) in
      let clear : bit_at mask (place - at) ≡ 0 = below (place - at) (omega arith) in
      absurd (omega arith);
}

-- after the highest set bit
pub none_after : (Q : ℕ → Type 0) (at to n mask bit : ℕ) → to ≡ at + n → MarksLanes (λ lane. Q (at + lane)) n mask
    → ((k : ℕ) → bit < k → bit_at mask k ≡ 0) → NoneIn Q (at + bit + 1) to
none_after Q at to n mask bit ends marks above = record {
  none = λ place low high h.
      let one : bit_at mask (place - at) ≡ 1 = marks.marked (place - at) (omega arith) (lane_of Q at place (omega arith) h) in
      let clear : bit_at mask (place - at) ≡ 0 = above (place - at) (omega arith) in
      absurd (omega arith);
}

-- the test that two numbers differ
abbrev pub differs : ℕ → ℕ → Bool
differs a b = not (eqb a b)

not_true : (a b : ℕ) (t : Bool) → eqb a b ≡ t → (not t ≡ true) ↔ (a ≢ b)
not_true a b true e = (λ h. absurd (cc), λ h. absurd (h (eqb-true a b e)))
not_true a b false e = (λ h same. let t : eqb a b ≡ true = eq-eqb a b same in cc, λ h. refl)

pub differs-true : (a b : ℕ) → (differs a b ≡ true) ↔ (a ≢ b)
differs-true a b = not_true a b (eqb a b) refl
