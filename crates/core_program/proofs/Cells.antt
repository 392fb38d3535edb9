-- Cells after inserts and removals: frames, and the changes of an effect.
use Rattle.std.proofs.Common.{if◌then◌else◌, ◌&&◌, ◌++◌, ◌+◌, ◌<◌, ◌||◌, ◌∙◌, ◌∷◌, ◌≡◌, ◌≢◌, ◌≤◌, ◌⊎◌, [], ℕ, Bool, List, None, Option, Some, ap, arith, cond}
use Rattle.std.proofs.Common.{false, inl, inr, is_some, length, length-append, nat_le, nat_lt, refl, replicate, suc, sym, take, true, zero}
use Rattle.std.proofs.lemmas.{Bool.Decides.eqb_tells, Bool.Decides.nat_tests, List.length-replicate, List.length-take}
use Rattle.std.specs.{Cmp.nat_cmp_total, Option.IsSome, Option.option_map, Ordering.eq_by_cmp, Ordering.nat_cmp}
use Rattle.std.specs.FinMap.{FinMap, get, get-insert, get-remove, insert, remove}
use Rattle.std.specs.List.{cons_option, filter_map, range_with_len}
use Rattle.cell_value.specs.Effects.{change_at, changed_block, changes_of, heap_end, heap_start, is_shared, listed, shared}
use Rattle.cell_value.specs.declared.entries.{Change.Change, Change.TheVariants.Gone, Change.TheVariants.Set, Touch.Touch}
use Rattle.cell_value.specs.declared.values.Value.{Value, TheVariants.Undefined}
use Rattle.core_program.proofs.Touches.{left_with}
use Rattle.core_program.specs.{Apply.changed_cells, Blocks.cleared, Blocks.filled, declared.program.Routine.Routine}
use Rattle.core_program.specs.Run.{copies_in, frame_cells, frame_size}

abbrev pub Map : Type 0
Map = FinMap nat_cmp Value

same_key : (q k : ℕ) → q ≡ k → eq_by_cmp nat_cmp q k ≡ true
same_key q k e = grind (arith, nat_tests)

other_key : (q k : ℕ) → q ≢ k → eq_by_cmp nat_cmp q k ≡ false
other_key q k e = grind (arith, nat_tests)

pub got_same : (m : Map) (k : ℕ) (v : Value) (q : ℕ) → q ≡ k → get (insert m k v) q ≡ Some v
got_same m k v q e = get-insert nat_cmp_total m k v q ∙ ap (λ b. cond b (Some v) (get m q)) (same_key q k e)

pub got_other : (m : Map) (k : ℕ) (v : Value) (q : ℕ) → q ≢ k → get (insert m k v) q ≡ get m q
got_other m k v q e = get-insert nat_cmp_total m k v q ∙ ap (λ b. cond b (Some v) (get m q)) (other_key q k e)

pub removed_same : (m : Map) (k q : ℕ) → q ≡ k → get (remove m k) q ≡ None
removed_same m k q e = get-remove nat_cmp_total m k q ∙ ap (λ b. cond b None (get m q)) (same_key q k e)

pub removed_other : (m : Map) (k q : ℕ) → q ≢ k → get (remove m k) q ≡ get m q
removed_other m k q e = get-remove nat_cmp_total m k q ∙ ap (λ b. cond b None (get m q)) (other_key q k e)

-- ---- frames

pub filled_below : (base : ℕ) (vs : List Value) (m : Map) (a : ℕ) → a < base → get (filled base vs m) a ≡ get m a
filled_below base [] m a h = refl
filled_below base (v ∷ vs) m a h = filled_below (base + 1) vs (insert m base v) a (omega arith) ∙ got_other m base v a (λ e. absurd (omega arith))

pub filled_above : (base : ℕ) (vs : List Value) (m : Map) (a : ℕ) → base + length vs ≤ a → get (filled base vs m) a ≡ get m a
filled_above base [] m a h = refl
filled_above base (v ∷ vs) m a h = filled_above (base + 1) vs (insert m base v) a (omega arith) ∙ got_other m base v a (λ e. absurd (omega arith))

pub filled_there : (base : ℕ) (vs : List Value) (m : Map) (a : ℕ) → base ≤ a → a < base + length vs → IsSome (get (filled base vs m) a)
filled_there base [] m a h k = absurd (omega arith)
filled_there base (v ∷ vs) m a h k = elim (eqb_tells a base) [
  | inl q ↦ ap is_some (filled_below (base + 1) vs (insert m base v) a (let e = q.1 in omega arith) ∙ got_same m base v a q.1)
  | inr q ↦ filled_there (base + 1) vs (insert m base v) a (let n = q.1 in omega arith) (omega arith)
]

pub frame_length : (r : Routine) (args : List Value) → length (frame_cells r args) ≡ frame_size r args
frame_length r args =
    let own = take r.cells (take r.parameters args ++ replicate r.cells Undefined) in
    omega (
      arith,
      length-append own (copies_in r args),
      length-take r.cells (take r.parameters args ++ replicate r.cells Undefined),
      length-append (take r.parameters args) (replicate r.cells Undefined),
      length-replicate r.cells Undefined,
    )

pub cleared_below : (base n : ℕ) (m : Map) (a : ℕ) → a < base → get (cleared base n m) a ≡ get m a
cleared_below base zero m a h = refl
cleared_below base (suc n) m a h = cleared_below (base + 1) n (remove m base) a (omega arith) ∙ removed_other m base a (λ e. absurd (omega arith))

pub cleared_above : (base n : ℕ) (m : Map) (a : ℕ) → base + n ≤ a → get (cleared base n m) a ≡ get m a
cleared_above base zero m a h = refl
cleared_above base (suc n) m a h = cleared_above (base + 1) n (remove m base) a (omega arith) ∙ removed_other m base a (λ e. absurd (omega arith))

pub cleared_gone : (base n : ℕ) (m : Map) (a : ℕ) → base ≤ a → a < base + n → get (cleared base n m) a ≡ None
cleared_gone base zero m a h k = absurd (omega arith)
cleared_gone base (suc n) m a h k = elim (eqb_tells a base) [
  | inl q ↦ cleared_below (base + 1) n (remove m base) a (let e = q.1 in omega arith) ∙ removed_same m base a q.1
  | inr q ↦ cleared_gone (base + 1) n (remove m base) a (let ne = q.1 in omega arith) (omega arith)
]

pub cleared_none : (base n : ℕ) (m : Map) (a : ℕ) → get m a ≡ None → get (cleared base n m) a ≡ None
cleared_none base zero m a h = h
cleared_none base (suc n) m a h = cleared_none (base + 1) n (remove m base) a (elim (eqb_tells a base) [
  | inl q ↦ removed_same m base a q.1
  | inr q ↦ removed_other m base a q.1 ∙ h
])

-- ---- blocks

pub filled_block : (first n : ℕ) (v : Value) (m : Map) (a : ℕ) → first ≤ a → a < first + n → get (filled first (replicate n v) m) a ≡ Some v
filled_block first zero v m a h k = absurd (omega arith)
filled_block first (suc n) v m a h k = elim (eqb_tells a first) [
  | inl q ↦ filled_below (first + 1) (replicate n v) (insert m first v) a (let e = q.1 in omega arith) ∙ got_same m first v a q.1
  | inr q ↦ filled_block (first + 1) n v (insert m first v) a (let ne = q.1 in omega arith) (omega arith)
]

pub above_block : (first n : ℕ) (v : Value) (m : Map) (a : ℕ) → first + n ≤ a → get (filled first (replicate n v) m) a ≡ get m a
above_block first n v m a h = filled_above first (replicate n v) m a (omega (arith, h, length-replicate n v))

-- what the touch of a block that is made says of each cell
pub block_made : (first n : ℕ) (m : Map) (a : ℕ)
    → get (filled first (replicate n Undefined) m) a ≡ left_with (changed_block first (first + n) (Set Undefined) a) (get m a)
block_made first n m a = by (nat_le first a) (nat_lt a (first + n)) refl refl
  where
    by : (x y : Bool) → nat_le first a ≡ x → nat_lt a (first + n) ≡ y
        → get (filled first (replicate n Undefined) m) a ≡ left_with (if x && y then Some (Set Undefined) else None) (get m a)
    by true true e g = filled_block first n Undefined m a (grind (arith, nat_tests)) (grind (arith, nat_tests))
    by true false e g = above_block first n Undefined m a (grind (arith, nat_tests))
    by false y e g = filled_below first (replicate n Undefined) m a (grind (arith, nat_tests))

-- and that of one that is dropped
pub block_dropped : (first n : ℕ) (m : Map) (a : ℕ) → get (cleared first n m) a ≡ left_with (changed_block first (first + n) Gone a) (get m a)
block_dropped first n m a = by (nat_le first a) (nat_lt a (first + n)) refl refl
  where
    by : (x y : Bool) → nat_le first a ≡ x → nat_lt a (first + n) ≡ y
        → get (cleared first n m) a ≡ left_with (if x && y then Some Gone else None) (get m a)
    by true true e g = cleared_gone first n m a (grind (arith, nat_tests)) (grind (arith, nat_tests))
    by true false e g = cleared_above first n m a (grind (arith, nat_tests))
    by false y e g = cleared_below first n m a (grind (arith, nat_tests))

-- ---- the changes of an effect

abbrev pairs : (ℕ → Option Change) → ℕ → ℕ → List (ℕ × Change)
pairs f at n = filter_map (λ q. option_map (λ x. (q, x)) (f q)) (range_with_len at n)

abbrev step : Option Change → ℕ → Map → Map
step None k m = m
step (Some (Set v)) k m = insert m k v
step (Some Gone) k m = remove m k

step_first : (o : Option Change) (k : ℕ) (ps : List (ℕ × Change)) (m : Map)
    → changed_cells (cons_option (option_map (λ x. (k, x)) o) ps) m ≡ changed_cells ps (step o k m)
step_first None k ps m = refl
step_first (Some (Set v)) k ps m = refl
step_first (Some Gone) k ps m = refl

step_here : (o : Option Change) (k : ℕ) (m : Map) (a : ℕ) → a ≡ k → get (step o k m) a ≡ left_with o (get m a)
step_here None k m a e = refl
step_here (Some (Set v)) k m a e = got_same m k v a e
step_here (Some Gone) k m a e = removed_same m k a e

step_other : (o : Option Change) (k : ℕ) (m : Map) (a : ℕ) → a ≢ k → get (step o k m) a ≡ get m a
step_other None k m a e = refl
step_other (Some (Set v)) k m a e = got_other m k v a e
step_other (Some Gone) k m a e = removed_other m k a e

outside : (f : ℕ → Option Change) (n at : ℕ) (m : Map) (a : ℕ) → (a < at) ⊎ (at + n ≤ a) → get (changed_cells (pairs f at n) m) a ≡ get m a
outside f zero at m a h = refl
outside f (suc n) at m a (inl h) = ap (λ m. get m a) (step_first (f at) at (pairs f (at + 1) n) m)
    ∙ outside f n (at + 1) (step (f at) at m) a (inl (omega arith)) ∙ step_other (f at) at m a (λ e. absurd (omega arith))
outside f (suc n) at m a (inr h) = ap (λ m. get m a) (step_first (f at) at (pairs f (at + 1) n) m)
    ∙ outside f n (at + 1) (step (f at) at m) a (inr (omega arith)) ∙ step_other (f at) at m a (λ e. absurd (omega arith))

inside : (f : ℕ → Option Change) (n at : ℕ) (m : Map) (a : ℕ) → at ≤ a → a < at + n → get (changed_cells (pairs f at n) m) a ≡ left_with (f a) (get m a)
inside f zero at m a h k = absurd (omega arith)
inside f (suc n) at m a h k = ap (λ m. get m a) (step_first (f at) at (pairs f (at + 1) n) m) ∙ elim (eqb_tells a at) [
  | inl q ↦ outside f n (at + 1) (step (f at) at m) a (inl (let e = q.1 in omega arith)) ∙ step_here (f at) at m a q.1
      ∙ ap (λ x. left_with (f x) (get m a)) (sym q.1)
  | inr q ↦ inside f n (at + 1) (step (f at) at m) a (let ne = q.1 in omega arith) (omega arith) ∙ ap (left_with (f a)) (step_other (f at) at m a q.1)
]

pub shared_in_heap : (base a : ℕ) → is_shared base a ≡ true → a < heap_end
shared_in_heap base a h = by (nat_lt a heap_end) refl h
  where
    by : (b : Bool) → nat_lt a heap_end ≡ b → (b && (nat_lt a base || nat_le heap_start a)) ≡ true → a < heap_end
    by true e h = grind (arith, nat_tests)
    by false e h = absurd (let z : false ≡ true = h in cc)

-- a cell that a call shares with its caller, and another, after the call's changes
pub changed_shared : (base : ℕ) (w : List Touch) (m : Map) (a : ℕ) → is_shared base a ≡ true
    → get (changed_cells (changes_of base w) m) a ≡ left_with (change_at a w) (get m a)
unfolding listed
changed_shared base w m a h = inside (shared base (λ addr. change_at addr w)) heap_end 0 m a (omega arith) (shared_in_heap base a h)
    ∙ ap (λ b. left_with (if b then change_at a w else None) (get m a)) h

pub changed_other : (base : ℕ) (w : List Touch) (m : Map) (a : ℕ) → is_shared base a ≡ false → get (changed_cells (changes_of base w) m) a ≡ get m a
unfolding listed
changed_other base w m a h = elim (below a) [
  | inl k ↦ inside (shared base (λ addr. change_at addr w)) heap_end 0 m a (omega arith) k
      ∙ ap (λ b. left_with (if b then change_at a w else None) (get m a)) h
  | inr k ↦ outside (shared base (λ addr. change_at addr w)) heap_end 0 m a (inr k)
]
  where
    below : (a : ℕ) → (a < heap_end) ⊎ (heap_end ≤ a)
    below a = by (nat_lt a heap_end) refl
      where
        by : (b : Bool) → nat_lt a heap_end ≡ b → (a < heap_end) ⊎ (heap_end ≤ a)
        by true e = inl (grind (arith, nat_tests))
        by false e = inr (grind (arith, nat_tests))
