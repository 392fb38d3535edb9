-- The test of agreement tells what agreement is.
use Rattle.std.proofs.Common.{◌&&◌, ◌+◌, ◌-◌, ◌<◌, ◌||◌, ◌∷◌, ◌≡◌, ◌≤◌, [], ℕ, ℤ, Bool, List, None, Option, Some, ap, arith, false, inl, inr, nat_eq, nat_le}
use Rattle.std.proofs.Common.{refl, subst, suc, sym, true, zero}
use Rattle.std.proofs.lemmas.{Bool.Decides.eqb_tells, Bool.Decides.nat_tests, List.Elements.All-cons, List.Elements.All-nil}
use Rattle.std.specs.{FinMap.FinMap, FinMap.get, List.All, List.slice_get, Ordering.int_eq, Ordering.nat_cmp}
use Rattle.cell_value.specs.Effects.{looked_of, made_of, reads_of}
use Rattle.cell_value.specs.declared.{values.SetBits.SetBits, values.Value.Value, ways_out.WayOut.WayOut}
use Rattle.cell_value.specs.declared.entries.Seen.{Seen, TheVariants.Absent, TheVariants.Held, TheVariants.There}
use Rattle.core_program.{proofs.OutcomesCompose.none_some, specs.Agree.Agrees, specs.Agree.EndedByItself, specs.Agree.Shows, specs.Agree.deepest}
use Rattle.core_program.specs.{Apply.steps_taken, Replay.same_numbers, Replay.same_value, Run.Call, State.State, State.most_calls, State.most_depth}
use Rattle.body_replay.specs.Agreement.{agrees, are_as_seen, are_same_items, ended_by_itself, is_as_seen, is_same_item}
use Rattle.body_replay.specs.Laws as law

-- ---- tests

pub both : (a b : Bool) → (a && b) ≡ true → (a ≡ true) × (b ≡ true)
both true b h = (refl, h)
both false b h = absurd (let z : false ≡ true = h in cc)

pub and_both : (a b : Bool) → a ≡ true → b ≡ true → (a && b) ≡ true
and_both true b h k = k
and_both false b h k = absurd (let z : false ≡ true = h in cc)

pub same_numbered : {a b : ℕ} → nat_eq a b ≡ true → a ≡ b
same_numbered h = grind (arith, nat_tests)

pub numbered_same : {a b : ℕ} → a ≡ b → nat_eq a b ≡ true
numbered_same h = grind (arith, nat_tests)

pub number_self : (n : ℕ) → nat_eq n n ≡ true
number_self n = numbered_same {a = n} refl

at_most : {a b : ℕ} → nat_le a b ≡ true → a ≤ b
at_most h = grind (arith, nat_tests)

most_at : {a b : ℕ} → a ≤ b → nat_le a b ≡ true
most_at h = grind (arith, nat_tests)

same_integer : (i j : ℤ) → int_eq i j ≡ true → i ≡ j
same_integer i j h = grind (arith, nat_tests)

integer_same : (i : ℤ) → int_eq i i ≡ true
integer_same i = grind (arith, nat_tests)

-- ---- how it ended

pub ended_tells : (w : WayOut) → ended_by_itself w ≡ true → EndedByItself w
ended_tells WayOut.OutOfSteps h = absurd (let z : false ≡ true = h in cc)
ended_tells (WayOut.Limited which) h = absurd (let z : false ≡ true = h in cc)
ended_tells w h = tt

pub ended_told : (w : WayOut) → EndedByItself w → ended_by_itself w ≡ true
ended_told WayOut.OutOfSteps h = absurd h
ended_told (WayOut.Limited which) h = absurd h
ended_told w h = refl

-- ---- the heap

pub fresh_tells : (m a b : ℕ) → (nat_eq m 0 || nat_eq a b) ≡ true → 0 < m → a ≡ b
fresh_tells m a b h l = by (nat_eq m 0) (nat_eq a b) refl refl h
  where
    by : (x y : Bool) → nat_eq m 0 ≡ x → nat_eq a b ≡ y → (x || y) ≡ true → a ≡ b
    by true y e f h = absurd (let z = same_numbered e in omega (arith, z, l))
    by false true e f h = same_numbered f
    by false false e f h = absurd (let z : false ≡ true = h in cc)

pub fresh_told : (m a b : ℕ) → (0 < m → a ≡ b) → (nat_eq m 0 || nat_eq a b) ≡ true
fresh_told m a b h = by (nat_eq m 0) refl
  where
    by : (x : Bool) → nat_eq m 0 ≡ x → (x || nat_eq a b) ≡ true
    by true e = refl
    by false e = numbered_same (h (grind (arith, nat_tests)))

-- ---- cells

numbers_tell : (ns ms : List ℕ) → same_numbers ns ms ≡ true → ns ≡ ms
numbers_tell [] [] h = refl
numbers_tell (n ∷ ns) (m ∷ ms) h =
    let b = both (nat_eq n m) (same_numbers ns ms) h in
    let first : n ≡ m = same_numbered b.0 in
    λ i. first i ∷ numbers_tell ns ms b.1 i
numbers_tell [] (m ∷ ms) h = absurd (let z : false ≡ true = h in cc)
numbers_tell (n ∷ ns) [] h = absurd (let z : false ≡ true = h in cc)

numbers_told : (ns : List ℕ) → same_numbers ns ns ≡ true
numbers_told [] = refl
numbers_told (n ∷ ns) = and_both (nat_eq n n) (same_numbers ns ns) (number_self n) (numbers_told ns)

bits_tell : (a b : SetBits) → same_numbers a.words b.words ≡ true → a ≡ b
bits_tell a b h = λ i. record { words = numbers_tell a.words b.words h i }

pub value_tells : (v w : Value) → same_value v w ≡ true → v ≡ w
value_tells Value.Undefined Value.Undefined h = refl
value_tells (Value.Number n) (Value.Number k) h = ap Value.Number (same_integer n k h)
value_tells (Value.Bits a) (Value.Bits b) h = ap Value.Bits (bits_tell a b h)
value_tells Value.Nil Value.Nil h = refl
value_tells (Value.Heap a) (Value.Heap b) h = ap Value.Heap (same_numbered h)
value_tells (Value.Place a) (Value.Place b) h = ap Value.Place (same_numbered h)
value_tells (Value.Frame a) (Value.Frame b) h = ap Value.Frame (same_numbered h)
value_tells (Value.Routine r a) (Value.Routine s b) h =
    let t = both (nat_eq r s) (nat_eq a b) h in
    let routine : r ≡ s = same_numbered t.0 in
    let frame : a ≡ b = same_numbered t.1 in
    λ i. Value.Routine (routine i) (frame i)
value_tells v w h = absurd (let z : false ≡ true = h in cc)

pub value_told : (v : Value) → same_value v v ≡ true
value_told Value.Undefined = refl
value_told (Value.Number n) = integer_same n
value_told (Value.Bits a) = numbers_told a.words
value_told Value.Nil = refl
value_told (Value.Heap a) = number_self a
value_told (Value.Place a) = number_self a
value_told (Value.Frame a) = number_self a
value_told (Value.Routine r a) = and_both (nat_eq r r) (nat_eq a a) (number_self r) (number_self a)

seen_tells : (o : Option Value) (s : Seen) → is_as_seen o s ≡ true → Shows o s
seen_tells (Some v) (Held w) h = ap Some (value_tells v w h)
seen_tells None (Held w) h = absurd (let z : false ≡ true = h in cc)
seen_tells (Some v) There h = refl
seen_tells None There h = absurd (let z : false ≡ true = h in cc)
seen_tells (Some v) Absent h = absurd (let z : false ≡ true = h in cc)
seen_tells None Absent h = refl

seen_told : (o : Option Value) (s : Seen) → Shows o s → is_as_seen o s ≡ true
seen_told o (Held w) h = subst (λ o. is_as_seen o (Held w) ≡ true) (sym h) (value_told w)
seen_told (Some v) There h = refl
seen_told None There h = absurd (let z : false ≡ true = h in cc)
seen_told (Some v) Absent h = absurd (none_some (sym h))
seen_told None Absent h = refl

abbrev AllShow : FinMap nat_cmp Value → List (ℕ × Seen) → Type 0
AllShow m rs = All (λ (addr, seen). Shows (get m addr) seen) rs

cells_tell : (m : FinMap nat_cmp Value) (rs : List (ℕ × Seen)) → are_as_seen m rs ≡ true → AllShow m rs
cells_tell m [] h = All-nil (λ (addr, seen). Shows (get m addr) seen)
cells_tell m ((a, s) ∷ rs) h =
    let b = both (is_as_seen (get m a) s) (are_as_seen m rs) h in
    All-cons (λ (addr, seen). Shows (get m addr) seen) (a, s) rs (seen_tells (get m a) s b.0) (cells_tell m rs b.1)

cells_told : (m : FinMap nat_cmp Value) (rs : List (ℕ × Seen)) → AllShow m rs → are_as_seen m rs ≡ true
cells_told m [] h = refl
cells_told m ((a, s) ∷ rs) h =
    and_both (is_as_seen (get m a) s) (are_as_seen m rs) (seen_told (get m a) s (h 0 (a, s) (omega arith)))
    (cells_told m rs (λ k d l. h (suc k) d (omega (arith, l))))

-- ---- items

item_tells : (x y : Option ℕ) → is_same_item x y ≡ true → x ≡ y
item_tells (Some x) (Some y) h = ap Some (same_numbered h)
item_tells None None h = refl
item_tells (Some x) None h = absurd (let z : false ≡ true = h in cc)
item_tells None (Some y) h = absurd (let z : false ≡ true = h in cc)

item_told : (x : Option ℕ) → is_same_item x x ≡ true
item_told (Some x) = number_self x
item_told None = refl

pub items_tell : (xs : List ℕ) (at : ℕ) (ys : List ℕ) (from n : ℕ) → are_same_items xs at ys from n ≡ true → (k : ℕ) → k < n
    → slice_get xs (at + k) ≡ slice_get ys (from + k)
items_tell xs at ys from zero h k l = absurd (omega arith)
items_tell xs at ys from (suc n) h k l =
    let b = both (are_same_items xs at ys from n) (is_same_item (slice_get xs (at + n)) (slice_get ys (from + n))) h in
    elim (eqb_tells k n) [
      | inl q ↦ subst (λ j. slice_get xs (at + j) ≡ slice_get ys (from + j)) (sym q.1) (item_tells (slice_get xs (at + n)) (slice_get ys (from + n)) b.1)
      | inr q ↦ items_tell xs at ys from n b.0 k (let z = q.1 in omega arith)
    ]

pub items_told : (xs : List ℕ) (at : ℕ) (ys : List ℕ) (from n : ℕ) → ((k : ℕ) → k < n → slice_get xs (at + k) ≡ slice_get ys (from + k))
    → are_same_items xs at ys from n ≡ true
items_told xs at ys from zero h = refl
items_told xs at ys from (suc n) h =
    and_both (are_same_items xs at ys from n) (is_same_item (slice_get xs (at + n)) (slice_get ys (from + n)))
    (items_told xs at ys from n (λ k l. h k (omega arith)))
    (subst (λ y. is_same_item (slice_get xs (at + n)) y ≡ true) (h n (omega arith)) (item_told (slice_get xs (at + n))))

-- ---- all of it

module _ (c : Call) (below : List Call) (σ : State) where
  abbrev heap : Bool
  heap = nat_eq (made_of c.log) 0 || nat_eq σ.fresh c.entry.fresh

  abbrev cells : Bool
  cells = are_as_seen σ.cells (reads_of c.base c.log)

  abbrev items : Bool
  items = are_same_items σ.items σ.place c.entry.items c.entry.place (looked_of c.entry.place c.log)

  abbrev steps : Bool
  steps = nat_le (steps_taken c) σ.steps

  abbrev calls : Bool
  calls = nat_le (σ.calls + (c.below + 1)) most_calls

  abbrev depth : Bool
  depth = nat_le (σ.depth + (deepest c below - c.depth)) most_depth

  pub test_tells : agrees c below σ ≡ true → Agrees c below σ
  unfolding agrees
  test_tells h =
      let e = both (ended_by_itself c.way) (nat_eq σ.top c.entry.top && (heap && (cells && (items && (steps && (calls && depth)))))) h in
      let t = both (nat_eq σ.top c.entry.top) (heap && (cells && (items && (steps && (calls && depth))))) e.1 in
      let f = both heap (cells && (items && (steps && (calls && depth)))) t.1 in
      let s = both cells (items && (steps && (calls && depth))) f.1 in
      let l = both items (steps && (calls && depth)) s.1 in
      let n = both steps (calls && depth) l.1 in
      let d = both calls depth n.1 in
      record {
        way = ended_tells c.way e.0;
        top = same_numbered t.0;
        fresh = fresh_tells (made_of c.log) σ.fresh c.entry.fresh f.0;
        cells = cells_tell σ.cells (reads_of c.base c.log) s.0;
        items = items_tell σ.items σ.place c.entry.items c.entry.place (looked_of c.entry.place c.log) l.0;
        steps = at_most n.0;
        calls = at_most d.0;
        depth = at_most d.1;
      }

  pub test_told : Agrees c below σ → agrees c below σ ≡ true
  unfolding agrees
  test_told a =
      and_both (ended_by_itself c.way) (nat_eq σ.top c.entry.top && (heap && (cells && (items && (steps && (calls && depth))))))
      (ended_told c.way a.way)
      (and_both (nat_eq σ.top c.entry.top) (heap && (cells && (items && (steps && (calls && depth))))) (numbered_same a.top)
      (and_both heap (cells && (items && (steps && (calls && depth)))) (fresh_told (made_of c.log) σ.fresh c.entry.fresh a.fresh)
      (and_both cells (items && (steps && (calls && depth))) (cells_told σ.cells (reads_of c.base c.log) a.cells)
      (and_both items (steps && (calls && depth))
      (items_told σ.items σ.place c.entry.items c.entry.place (looked_of c.entry.place c.log) a.items)
      (and_both steps (calls && depth) (most_at a.steps) (and_both calls depth (most_at a.calls) (most_at a.depth)))))))

pub is_tested : law.AgreementIsTested
is_tested c below σ = (test_tells c below σ, test_told c below σ)
