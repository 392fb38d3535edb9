-- What an act leaves of a sound state, and that the state after it is sound. Each act has a clause of `act_leaves`.
use Rattle.std.proofs.Common.{if◌then◌else◌, ◌&&◌, ◌++◌, ◌+◌, ◌-◌, ◌<◌, ◌||◌, ◌∙◌, ◌∷◌, ◌≡◌, ◌≤◌, ◌⊎◌, [], ℕ, Bool, List, None, Option, Some, ap, append-nil}
use Rattle.std.proofs.Common.{append_assoc, arith, false, inl, inr, is_some, length, nat_le, nat_lt, refl, replicate, subst, sym, true}
use Rattle.std.proofs.lemmas.{Bool.Decides.eqb_tells, Bool.Decides.nat_tests, Option.slice_get_within}
use Rattle.std.proofs.lemmas.List.{Elements.All-append, Elements.All-cons, Elements.All-nil, Elements.filter_map-append, Sums.sum_by-append}
use Rattle.std.specs.{FinMap.get, FinMap.insert, List.All, List.slice_get, Option.IsSome}
use Rattle.cell_value.specs.Effects.{IsCountable, byte_by, given_of, heap_end, is_shared, made_by, made_of, taken_by, taken_of}
use Rattle.cell_value.specs.declared.{entries.Change.TheVariants.Set, entries.Touch.Touch, values.Value.Value, values.Value.TheVariants.Undefined}
use Rattle.cell_value.specs.declared.ways_out.{Kind.Kind, Which.TheVariants.Calls, Which.TheVariants.Depth, Which.TheVariants.Heap, Which.TheVariants.Stack}
use Rattle.core_program.proofs.Cells.{above_block, block_dropped, block_made, cleared_below, cleared_none, filled_below, got_other, got_same}
use Rattle.core_program.proofs.OutcomesCompose.{none_some}
use Rattle.core_program.proofs.Touches.{Serves, left_same, left_with, serves_append, written, written-append}
use Rattle.core_program.specs.{Blocks.block_cells, Blocks.cleared, Blocks.filled, RunLaws.HasFewItems}
use Rattle.core_program.specs.Acts.{Act, ActResult, DropBlock, Fault, GiveByte, HasCell, Limited, MakeBlock, OutOfSteps, ReadCell, Spend, Stops, TakeIf, Went}
use Rattle.core_program.specs.Acts.{WriteCell, after_touches, drop_block, dropped_block, limit_passed, look_item, made_block, make_block, on_cell, perform}
use Rattle.core_program.specs.Acts.{put_asked, put_value, read_as, spent, take_item, take_looked, with_steps}
use Rattle.core_program.specs.State.{IsSound, State, is_in_reach, most_calls, most_depth, stack_end}

-- what a part of a run with these touches and this many calls leaves of a state: what it does to the cells that it shares
-- with its caller, and to all else
pub record Leaves (σ : State) (w : List Touch) (n : ℕ) (τ : State) : Type 0 where
  pub top : τ.top ≡ σ.top
  pub cells : (a : ℕ) → is_shared σ.top a ≡ true → get τ.cells a ≡ written a w (get σ.cells a)
  -- the touches show the state as it was
  pub shows : (a : ℕ) → is_shared σ.top a ≡ true → Serves (get σ.cells a) a w
  pub fresh : τ.fresh ≡ σ.fresh + made_of w
  pub items : τ.items ≡ σ.items
  pub place : τ.place ≡ σ.place + taken_of w
  pub output : τ.output ≡ σ.output ++ given_of w
  pub steps : τ.steps ≤ σ.steps
  pub calls : τ.calls ≡ σ.calls + n
  pub depth : τ.depth ≡ σ.depth
  -- their effect can be counted
  pub countable : HasFewItems σ → All IsCountable w
  pub sound : IsSound τ

pub sound_steps : {σ : State} (k : ℕ) → IsSound σ → IsSound (record σ { steps = k })
sound_steps k s = record {
  stack = s.stack;
  above_stack = s.above_stack;
  above_heap = s.above_heap;
  stack_fits = s.stack_fits;
  heap_begins = s.heap_begins;
  heap_fits = s.heap_fits;
  input = s.input;
  calls = s.calls;
  depth = s.depth;
}

countable_one : (t : Touch) → IsCountable t → All IsCountable (t ∷ [])
countable_one t h = All-cons IsCountable t [] h (All-nil IsCountable)

-- nothing but steps
pub leaves_steps : (σ : State) (k : ℕ) → k ≤ σ.steps → IsSound σ → Leaves σ [] 0 (record σ { steps = k })
leaves_steps σ k h s = record {
  top = refl;
  cells = λ a q. refl;
  shows = λ a q. tt;
  fresh = omega arith;
  items = refl;
  place = omega arith;
  output = sym (append-nil σ.output);
  steps = h;
  calls = omega arith;
  depth = refl;
  countable = λ m. All-nil IsCountable;
  sound = sound_steps k s;
}

pub leaves_same : (σ : State) → IsSound σ → Leaves σ [] 0 σ
leaves_same σ s = leaves_steps σ σ.steps (omega arith) s

pub made_append : (v w : List Touch) → made_of (v ++ w) ≡ made_of v + made_of w
made_append v w = sum_by-append made_by v w

taken_append : (v w : List Touch) → taken_of (v ++ w) ≡ taken_of v + taken_of w
taken_append v w = sum_by-append taken_by v w

given_append : (v w : List Touch) → given_of (v ++ w) ≡ given_of v ++ given_of w
given_append v w = filter_map-append byte_by v w

pub leaves_then : {σ τ υ : State} {v w : List Touch} {n k : ℕ} → Leaves σ v n τ → Leaves τ w k υ → Leaves σ (v ++ w) (n + k) υ
leaves_then {σ = σ} {τ = τ} {υ = υ} {v = v} {w = w} {n = n} {k = k} f g = record {
  top = g.top ∙ f.top;
  cells = λ a h. g.cells a (shared a h) ∙ ap (written a w) (f.cells a h) ∙ sym (written-append a v w (get σ.cells a));
  shows = λ a h. serves_append (get σ.cells a) a v w (f.shows a h)
      (λ l. subst (λ o. Serves o a w) (f.cells a h ∙ left_same a v (get σ.cells a) l) (g.shows a (shared a h)));
  fresh = omega (arith, f.fresh, g.fresh, made_append v w);
  items = g.items ∙ f.items;
  place = omega (arith, f.place, g.place, taken_append v w);
  output = g.output ∙ ap (λ l. l ++ given_of w) f.output ∙ append_assoc σ.output (given_of v) (given_of w) ∙ ap (λ l. σ.output ++ l) (sym (given_append v w));
  steps = omega (arith, f.steps, g.steps);
  calls = omega (arith, f.calls, g.calls);
  depth = g.depth ∙ f.depth;
  countable = λ m. All-append IsCountable v w (f.countable m) (g.countable (subst (λ xs. length xs < 4294967295) (sym f.items) m));
  sound = g.sound;
}
  where
    shared : (a : ℕ) → is_shared σ.top a ≡ true → is_shared τ.top a ≡ true
    shared a h = ap (λ t. is_shared t a) f.top ∙ h

-- ---- acts

abbrev pub DoneLeaves : {A : Type 0} → State → ActResult A → Type 0
DoneLeaves σ (Went x w τ) = Leaves σ w 0 τ
DoneLeaves σ (Stops why w τ) = Leaves σ w 0 τ

stepped : {A : Type 0} (σ : State) (n : ℕ) (go : State → ActResult A) → IsSound σ → ((k : ℕ) → k ≤ σ.steps → DoneLeaves σ (go (record σ { steps = k })))
    → DoneLeaves σ (with_steps n σ go)
stepped {A} σ n go s h = by (nat_lt σ.steps n)
  where
    by : (b : Bool) → DoneLeaves {A = A} σ (if b then Stops OutOfSteps [] (spent σ) else go (record σ { steps = σ.steps - n }))
    by true = leaves_steps σ 0 (omega arith) s
    by false = h (σ.steps - n) (omega arith)

celled : {A : Type 0} (σ : State) (addr : ℕ) (go : State → ActResult A) → IsSound σ
    → (is_in_reach σ addr ≡ true → (k : ℕ) → k ≤ σ.steps → DoneLeaves σ (go (record σ { steps = k }))) → DoneLeaves σ (on_cell addr σ go)
celled {A} σ addr go s h = by (is_in_reach σ addr) refl
  where
    by : (b : Bool) → is_in_reach σ addr ≡ b → DoneLeaves {A = A} σ (if b then with_steps 1 σ go else Stops (Fault Kind.Undefined) [] σ)
    by true e = stepped σ 1 go s (h e)
    by false e = leaves_same σ s

-- touches, and what was done after them
touches_leave : {A : Type 0} (σ τ : State) (w : List Touch) (d : ActResult A) → Leaves σ w 0 τ → DoneLeaves τ d → DoneLeaves σ (after_touches w d)
touches_leave σ τ w (Went x v υ) h k = leaves_then h k
touches_leave σ τ w (Stops why v υ) h k = leaves_then h k

read_shown : (σ : State) (addr k : ℕ) (v : Value) → k ≤ σ.steps → IsSound σ → get σ.cells addr ≡ Some v
    → Leaves σ (Touch.Read addr v ∷ []) 0 (record σ { steps = k })
read_shown σ addr k v h s e = record {
  top = refl;
  cells = λ a q. refl;
  shows = λ a q. (λ r. ap (get σ.cells) (sym r) ∙ e, λ c. tt);
  fresh = omega arith;
  items = refl;
  place = omega arith;
  output = sym (append-nil σ.output);
  steps = h;
  calls = omega arith;
  depth = refl;
  countable = λ m. countable_one (Touch.Read addr v) tt;
  sound = sound_steps k s;
}

asked_shown : (σ : State) (addr k : ℕ) (b : Bool) → k ≤ σ.steps → IsSound σ → is_some (get σ.cells addr) ≡ b
    → Leaves σ (Touch.Has addr b ∷ []) 0 (record σ { steps = k })
asked_shown σ addr k b h s e = record {
  top = refl;
  cells = λ a q. refl;
  shows = λ a q. (λ r. ap (λ a. is_some (get σ.cells a)) (sym r) ∙ e, λ c. tt);
  fresh = omega arith;
  items = refl;
  place = omega arith;
  output = sym (append-nil σ.output);
  steps = h;
  calls = omega arith;
  depth = refl;
  countable = λ m. countable_one (Touch.Has addr b) tt;
  sound = sound_steps k s;
}

-- an address in reach
pub reaches : (σ : State) (addr : ℕ) → is_in_reach σ addr ≡ true → (addr < σ.top) ⊎ ((stack_end ≤ addr) × (addr < heap_end))
reaches σ addr h = by (nat_lt addr σ.top) (nat_le stack_end addr) (nat_lt addr heap_end) refl refl refl h
  where
    by : (a b c : Bool) → nat_lt addr σ.top ≡ a → nat_le stack_end addr ≡ b → nat_lt addr heap_end ≡ c → (a || (b && c)) ≡ true
        → (addr < σ.top) ⊎ ((stack_end ≤ addr) × (addr < heap_end))
    by true b c e f g h = inl (grind (arith, nat_tests))
    by false true true e f g h = inr (grind (arith, nat_tests), grind (arith, nat_tests))
    by false true false e f g h = absurd (let z : false ≡ true = h in cc)
    by false false c e f g h = absurd (let z : false ≡ true = h in cc)

not_there : {o : Option Value} → o ≡ None → IsSome o → ⊥
not_there e h = absurd (let z : false ≡ true = ap is_some (sym e) ∙ h in cc)

-- a cell that is there gets a value
sound_write : (σ : State) (addr : ℕ) (v : Value) → IsSound σ → IsSome (get σ.cells addr) → IsSound (record σ { cells = insert σ.cells addr v })
sound_write σ addr v s there = record {
  stack = λ a h. elim (eqb_tells a addr) [
    | inl q ↦ ap is_some (got_same σ.cells addr v a q.1)
    | inr q ↦ ap is_some (got_other σ.cells addr v a q.1) ∙ s.stack a h
  ];
  above_stack = λ a h k. elim (eqb_tells a addr) [
    | inl q ↦ absurd (not_there (ap (get σ.cells) (sym q.1) ∙ s.above_stack a h k) there)
    | inr q ↦ got_other σ.cells addr v a q.1 ∙ s.above_stack a h k
  ];
  above_heap = λ a h. elim (eqb_tells a addr) [
    | inl q ↦ absurd (not_there (ap (get σ.cells) (sym q.1) ∙ s.above_heap a h) there)
    | inr q ↦ got_other σ.cells addr v a q.1 ∙ s.above_heap a h
  ];
  stack_fits = s.stack_fits;
  heap_begins = s.heap_begins;
  heap_fits = s.heap_fits;
  input = s.input;
  calls = s.calls;
  depth = s.depth;
}

write_leaves : (σ : State) (addr k : ℕ) (v : Value) → k ≤ σ.steps → IsSound σ → IsSome (get σ.cells addr)
    → Leaves σ (Touch.Write addr v ∷ []) 0 (record σ { cells = insert σ.cells addr v; steps = k })
write_leaves σ addr k v h s there = record {
  top = refl;
  cells = λ a q. elim (eqb_tells addr a) [
    | inl r ↦ got_same σ.cells addr v a (sym r.1) ∙ ap (λ t. left_with (if t then Some (Set v) else None) (get σ.cells a)) (sym r.0)
    | inr r ↦ got_other σ.cells addr v a (λ z. r.1 (sym z)) ∙ ap (λ t. left_with (if t then Some (Set v) else None) (get σ.cells a)) (sym r.0)
  ];
  shows = λ a q. (tt, λ c. tt);
  fresh = omega arith;
  items = refl;
  place = omega arith;
  output = sym (append-nil σ.output);
  steps = h;
  calls = omega arith;
  depth = refl;
  countable = λ m. countable_one (Touch.Write addr v) tt;
  sound = sound_steps k (sound_write σ addr v s there);
}

-- a write to an address in reach
write_done : (σ : State) (addr k : ℕ) (v : Value) → IsSound σ → is_in_reach σ addr ≡ true → k ≤ σ.steps → DoneLeaves σ
    (if nat_lt addr stack_end then put_value addr v (record σ { steps = k }) else put_asked (is_some (get σ.cells addr)) addr v (record σ { steps = k }))
write_done σ addr k v s r h = by (nat_lt addr stack_end) refl
  where
    in_stack : addr < stack_end → (addr < σ.top) ⊎ ((stack_end ≤ addr) × (addr < heap_end)) → IsSome (get σ.cells addr)
    in_stack l (inl q) = s.stack addr q
    in_stack l (inr q) = absurd (let z = q.0 in omega arith)

    asked : (there : Bool) → is_some (get σ.cells addr) ≡ there → DoneLeaves σ (put_asked there addr v (record σ { steps = k }))
    asked false e = asked_shown σ addr k false h s e
    asked true e = touches_leave σ (record σ { steps = k }) (Touch.Has addr true ∷ []) _ (asked_shown σ addr k true h s e)
        (stepped (record σ { steps = k }) 1 (put_value addr v) (sound_steps k s) (λ l m. write_leaves (record σ { steps = k }) addr l v m (sound_steps k s) e))

    by : (b : Bool) → nat_lt addr stack_end ≡ b
        → DoneLeaves σ (if b then put_value addr v (record σ { steps = k }) else put_asked (is_some (get σ.cells addr)) addr v (record σ { steps = k }))
    by true e = write_leaves σ addr k v h s (in_stack (grind (arith, nat_tests)) (reaches σ addr r))
    by false e = asked (is_some (get σ.cells addr)) refl

-- ---- blocks

-- a block that fits into the heap is made
sound_made : (σ : State) (n : ℕ) → IsSound σ → σ.fresh + n ≤ heap_end
    → IsSound (record σ { cells = filled σ.fresh (replicate n Undefined) σ.cells; fresh = σ.fresh + n })
sound_made σ n s fits = record {
  stack = λ a h. ap is_some (below a (omega (arith, h, s.stack_fits))) ∙ s.stack a h;
  above_stack = λ a h k. below a k ∙ s.above_stack a h k;
  above_heap = λ a h. above_block σ.fresh n Undefined σ.cells a h ∙ s.above_heap a (omega (arith, h));
  stack_fits = s.stack_fits;
  heap_begins = omega (arith, s.heap_begins);
  heap_fits = fits;
  input = s.input;
  calls = s.calls;
  depth = s.depth;
}
  where
    below : (a : ℕ) → a < stack_end → get (filled σ.fresh (replicate n Undefined) σ.cells) a ≡ get σ.cells a
    below a h = filled_below σ.fresh (replicate n Undefined) σ.cells a (omega (arith, h, s.heap_begins))

made_leaves : (σ : State) (n of' k : ℕ) → k ≤ σ.steps → IsSound σ → σ.fresh + n ≤ heap_end
    → Leaves σ (Touch.Make σ.fresh n of' ∷ []) 0 (record σ { cells = filled σ.fresh (replicate n Undefined) σ.cells; fresh = σ.fresh + n; steps = k })
made_leaves σ n of' k h s fits = record {
  top = refl;
  cells = λ a q. block_made σ.fresh n σ.cells a;
  shows = λ a q. (tt, λ c. tt);
  fresh = omega arith;
  items = refl;
  place = omega arith;
  output = sym (append-nil σ.output);
  steps = h;
  calls = omega arith;
  depth = refl;
  countable = λ m. countable_one (Touch.Make σ.fresh n of') fits;
  sound = sound_steps k (sound_made σ n s fits);
}

make_done : (σ : State) (n of' : ℕ) → IsSound σ → DoneLeaves σ (make_block n of' σ)
make_done σ n of' s = by (nat_lt heap_end (σ.fresh + n)) refl
  where
    by : (b : Bool) → nat_lt heap_end (σ.fresh + n) ≡ b → DoneLeaves σ (if b then Stops (Limited Heap) [] σ else with_steps n σ (made_block n of'))
    by true e = leaves_same σ s
    by false e = stepped σ n (made_block n of') s (λ k h. made_leaves σ n of' k h s (grind (arith, nat_tests)))

-- cells of the heap are dropped
sound_dropped : (σ : State) (addr n : ℕ) → IsSound σ → stack_end ≤ addr → IsSound (record σ { cells = cleared addr n σ.cells })
sound_dropped σ addr n s h = record {
  stack = λ a l. ap is_some (cleared_below addr n σ.cells a (omega (arith, h, l, s.stack_fits))) ∙ s.stack a l;
  above_stack = λ a l k. cleared_below addr n σ.cells a (omega (arith, h, k)) ∙ s.above_stack a l k;
  above_heap = λ a l. cleared_none addr n σ.cells a (s.above_heap a l);
  stack_fits = s.stack_fits;
  heap_begins = s.heap_begins;
  heap_fits = s.heap_fits;
  input = s.input;
  calls = s.calls;
  depth = s.depth;
}

dropped_leaves : (σ : State) (addr n k : ℕ) → k ≤ σ.steps → IsSound σ → stack_end ≤ addr → addr + n ≤ heap_end
    → Leaves σ (Touch.Drop addr n ∷ []) 0 (record σ { cells = cleared addr n σ.cells; steps = k })
dropped_leaves σ addr n k h s l ends = record {
  top = refl;
  cells = λ a q. block_dropped addr n σ.cells a;
  shows = λ a q. (tt, λ c. tt);
  fresh = omega arith;
  items = refl;
  place = omega arith;
  output = sym (append-nil σ.output);
  steps = h;
  calls = omega arith;
  depth = refl;
  countable = λ m. countable_one (Touch.Drop addr n) ends;
  sound = sound_steps k (sound_dropped σ addr n s l);
}

drop_done : (σ : State) (addr n : ℕ) → IsSound σ → DoneLeaves σ (drop_block addr n σ)
drop_done σ addr n s = by (nat_le stack_end addr) (nat_le (addr + n) heap_end) refl refl
  where
    by : (a b : Bool) → nat_le stack_end addr ≡ a → nat_le (addr + n) heap_end ≡ b
        → DoneLeaves σ (if a && b then with_steps n σ (dropped_block addr n) else Stops (Fault Kind.Undefined) [] σ)
    by true true e f = stepped σ n (dropped_block addr n) s (λ k h. dropped_leaves σ addr n k h s (grind (arith, nat_tests)) (grind (arith, nat_tests)))
    by true false e f = leaves_same σ s
    by false b e f = leaves_same σ s

-- ---- items and bytes

-- an item is looked at
look_shown : (σ : State) (k : ℕ) → k ≤ σ.steps → IsSound σ → Leaves σ (Touch.Look σ.place ∷ []) 0 (record σ { steps = k })
look_shown σ k h s = record {
  top = refl;
  cells = λ a q. refl;
  shows = λ a q. (tt, λ c. tt);
  fresh = omega arith;
  items = refl;
  place = omega arith;
  output = sym (append-nil σ.output);
  steps = h;
  calls = omega arith;
  depth = refl;
  countable = λ m. countable_one (Touch.Look σ.place) (let few : length σ.items < 4294967295 = m in omega (arith, s.input, few));
  sound = sound_steps k s;
}

-- other items are left, and other bytes were given
sound_transfer : (σ : State) (k place : ℕ) (output : List ℕ) → IsSound σ → place ≤ length σ.items
    → IsSound (record σ { place = place; output = output; steps = k })
sound_transfer σ k place output s h = record {
  stack = s.stack;
  above_stack = s.above_stack;
  above_heap = s.above_heap;
  stack_fits = s.stack_fits;
  heap_begins = s.heap_begins;
  heap_fits = s.heap_fits;
  input = h;
  calls = s.calls;
  depth = s.depth;
}

-- the item at the place is taken
take_leaves : (σ : State) (k : ℕ) → k ≤ σ.steps → IsSound σ → σ.place < length σ.items
    → Leaves σ (Touch.Take 1 ∷ []) 0 (record σ { place = σ.place + 1; steps = k })
take_leaves σ k h s l = record {
  top = refl;
  cells = λ a q. refl;
  shows = λ a q. (tt, λ c. tt);
  fresh = omega arith;
  items = refl;
  place = omega arith;
  output = sym (append-nil σ.output);
  steps = h;
  calls = omega arith;
  depth = refl;
  countable = λ m. countable_one (Touch.Take 1) tt;
  sound = sound_transfer σ k (σ.place + 1) σ.output s (omega (arith, l));
}

-- an item was looked at, and is taken if it is wanted
took : (wanted : ℕ → Bool) (o : Option ℕ) (σ : State) → IsSound σ → slice_get σ.items σ.place ≡ o → DoneLeaves σ (take_looked wanted o σ)
took wanted None σ s e = leaves_same σ s
took wanted (Some item) σ s e = by (wanted item)
  where
    by : (b : Bool) → DoneLeaves σ (take_item b item σ)
    by true = stepped σ 1 (λ τ. Went (Some item) (Touch.Take 1 ∷ []) (record τ { place = τ.place + 1 })) s
        (λ k h. take_leaves σ k h s (slice_get_within σ.items σ.place item e))
    by false = leaves_same σ s

-- a byte is given
give_leaves : (σ : State) (byte k : ℕ) → k ≤ σ.steps → IsSound σ
    → Leaves σ (Touch.Give byte ∷ []) 0 (record σ { output = σ.output ++ byte ∷ []; steps = k })
give_leaves σ byte k h s = record {
  top = refl;
  cells = λ a q. refl;
  shows = λ a q. (tt, λ c. tt);
  fresh = omega arith;
  items = refl;
  place = omega arith;
  output = refl;
  steps = h;
  calls = omega arith;
  depth = refl;
  countable = λ m. countable_one (Touch.Give byte) tt;
  sound = sound_transfer σ k σ.place (σ.output ++ byte ∷ []) s s.input;
}

pub act_leaves : (act : Act) (σ : State) → IsSound σ → DoneLeaves σ (perform act σ)
act_leaves (Spend n) σ s = stepped σ n (λ τ. Went tt [] τ) s (λ k h. leaves_steps σ k h s)
act_leaves (ReadCell addr) σ s = celled σ addr (λ τ. read_as addr (get σ.cells addr) τ) s (λ r k h. by k h (get σ.cells addr) refl)
  where
    by : (k : ℕ) → k ≤ σ.steps → (o : Option Value) → get σ.cells addr ≡ o → DoneLeaves σ (read_as addr o (record σ { steps = k }))
    by k h None e = asked_shown σ addr k false h s (ap is_some e)
    by k h (Some v) e = read_shown σ addr k v h s e
act_leaves (HasCell addr) σ s = celled σ addr (λ τ. Went (is_some (get σ.cells addr)) (Touch.Has addr (is_some (get σ.cells addr)) ∷ []) τ) s
    (λ r k h. asked_shown σ addr k (is_some (get σ.cells addr)) h s refl)
act_leaves (WriteCell addr v) σ s = celled σ addr
    (λ τ. if nat_lt addr stack_end then put_value addr v τ else put_asked (is_some (get τ.cells addr)) addr v τ) s (λ r k h. write_done σ addr k v s r h)
act_leaves (TakeIf wanted) σ s = stepped σ 1 (look_item wanted) s (λ k h. touches_leave σ (record σ { steps = k }) (Touch.Look σ.place ∷ [])
    (take_looked wanted (slice_get σ.items σ.place) (record σ { steps = k })) (look_shown σ k h s)
    (took wanted (slice_get σ.items σ.place) (record σ { steps = k }) (sound_steps k s) refl))
act_leaves (GiveByte byte) σ s = stepped σ 1 (λ τ. Went tt (Touch.Give byte ∷ []) (record τ { output = τ.output ++ byte ∷ [] })) s
    (λ k h. give_leaves σ byte k h s)
act_leaves (MakeBlock cells of') σ s = make_done σ (block_cells cells) of' s
act_leaves (DropBlock addr cells) σ s = drop_done σ addr (block_cells cells) s

-- ---- limits

-- a call more passes neither the limit of calls nor that of depth
pub record MayEnter (σ : State) : Type 0 where
  pub calls : σ.calls < most_calls
  pub depth : σ.depth ≤ most_depth

-- where no limit is passed
pub limits_hold : (σ : State) (n : ℕ) → limit_passed σ n ≡ None → MayEnter σ
limits_hold σ n e = by (nat_lt most_calls (σ.calls + 1)) (nat_lt most_depth σ.depth) (nat_lt stack_end (σ.top + n)) refl refl e
  where
    by : (a b c : Bool) → nat_lt most_calls (σ.calls + 1) ≡ a → nat_lt most_depth σ.depth ≡ b
        → (if a then Some Calls else if b then Some Depth else if c then Some Stack else None) ≡ None → MayEnter σ
    by true b c e f h = absurd (none_some (sym h))
    by false true c e f h = absurd (none_some (sym h))
    by false false true e f h = absurd (none_some (sym h))
    by false false false e f h = record { calls = grind (arith, nat_tests); depth = grind (arith, nat_tests) }
