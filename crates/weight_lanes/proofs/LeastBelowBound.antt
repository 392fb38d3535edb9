-- The least of the numbers below a bound, in a variable and in the lanes of a vector.
use Rattle.std.proofs.Common.{◌+◌, ◌-◌, ◌<◌, ◌≡◌, ◌≤◌, ℕ, ⊎_elim, List, ap, arith, get_or, inl, inr, length, min, subst, sym}
use Rattle.std.proofs.lemmas.Bool.{cases_lt}
use Rattle.weight_lanes.specs.Lanes.{HasLanes, IsLeastBelow, IsTaken}

-- the least lane of a vector is the least of 2 ^ 32 - 1 and the numbers that f gives below `count`
pub record HasLeast (f : ℕ → ℕ) (count : ℕ) (lanes : List ℕ) : Type 0 where
  pub long : length lanes ≡ 16
  pub below : (place : ℕ) → place < count → (lane : ℕ) × (lane < 16) × (get_or lanes lane 0 ≤ f place)
  pub taken : (lane : ℕ) → lane < 16 → IsTaken f count (get_or lanes lane 0)

taken_below_more : (f : ℕ → ℕ) (count more number : ℕ) → count ≤ more → IsTaken f count number → IsTaken f more number
taken_below_more f count more number le taken =
    ⊎_elim (λ e. inl e) (λ at. let l = at.1 in inr (at.0, omega arith, at.2)) taken

taken_min : (f : ℕ → ℕ) (count a b : ℕ) → IsTaken f count a → IsTaken f count b → IsTaken f count (min a b)
taken_min f count a b first second =
    ⊎_elim (λ l. let e : a ≡ min a b = omega arith in subst (IsTaken f count) e first)
    (λ ge. let e : b ≡ min a b = omega arith in subst (IsTaken f count) e second) (cases_lt a b)

-- with one number more
pub IsLeast-more : (f : ℕ → ℕ) (count least next result : ℕ) → IsLeastBelow f count least → next ≡ f count → result ≡ min least next
    → IsLeastBelow f (count + 1) result
IsLeast-more f count least next result is here smaller = record {
  below = λ place l.
      ⊎_elim (λ lower. let b = is.below place lower in omega arith)
      (λ ge. let e : count ≡ place = omega arith in omega (arith, here, ap f e)) (cases_lt place count);
  taken =
      let before = taken_below_more f count (count + 1) least (omega arith) is.taken in
      let at : IsTaken f (count + 1) next = inr (count, omega arith, sym here) in
      subst (IsTaken f (count + 1)) (sym smaller) (taken_min f (count + 1) least next before at);
}

-- with one block more
pub HasLeast-more : (f : ℕ → ℕ) (at : ℕ) (lanes block result : List ℕ) → HasLeast f at lanes → HasLanes (λ lane. f (at + lane)) block
    → HasLanes (λ lane. min (get_or lanes lane 0) (get_or block lane 0)) result → HasLeast f (at + 16) result
HasLeast-more f at lanes block result has numbers smaller = record {
  long = smaller.long;
  below = λ place l.
      ⊎_elim (λ lower.
      let low = has.below place lower in
      let lane = low.0 in
      let inside = low.1 in
      let e = smaller.each lane inside in
      let le = low.2 in
      (lane, inside, omega arith))
      (λ ge.
      let lane = place - at in
      let inside : lane < 16 = omega arith in
      let e = smaller.each lane inside in
      let n = numbers.each lane inside in
      let same : f (at + lane) ≡ f place = let a : at + lane ≡ place = omega arith in ap f a in
      (lane, inside, omega arith)) (cases_lt place at);
  taken = λ lane l.
      let before = taken_below_more f at (at + 16) (get_or lanes lane 0) (omega arith) (has.taken lane l) in
      let here : IsTaken f (at + 16) (get_or block lane 0) = inr (at + lane, omega arith, sym (numbers.each lane l)) in
      subst (IsTaken f (at + 16)) (sym (smaller.each lane l)) (taken_min f (at + 16) (get_or lanes lane 0) (get_or block lane 0) before here);
}

-- the least lane
pub IsLeast-lanes : (f : ℕ → ℕ) (count least : ℕ) (lanes : List ℕ) → HasLeast f count lanes → IsLeastBelow (λ lane. get_or lanes lane 0) 16 least
    → IsLeastBelow f count least
IsLeast-lanes f count least lanes has is = record {
  below = λ place l.
      let low = has.below place l in
      let le = is.below low.0 low.1 in
      let more = low.2 in
      omega arith;
  taken = ⊎_elim (λ e. inl e) (λ at. subst (IsTaken f count) at.2 (has.taken at.0 at.1)) is.taken;
}
