-- What each run leaves of a sound state, and that the state after it is sound.
use Rattle.std.proofs.Common.{◌&&◌, ◌++◌, ◌+◌, ◌<◌, ◌||◌, ◌∙◌, ◌≡◌, ◌≤◌, ◌⊎◌, [], ℕ, Bool, List, None, ap, arith, false, inl, inr, is_some, length, nat_le}
use Rattle.std.proofs.Common.{nat_lt, refl, subst, suc, sym, true}
use Rattle.std.{proofs.lemmas.Bool.Decides.nat_tests, specs.FinMap.get}
use Rattle.cell_value.specs.Effects.{heap_end, heap_start, is_shared}
use Rattle.cell_value.specs.declared.{entries.Touch.Touch, values.Value.Value, ways_out.WayOut.WayOut}
use Rattle.core_program.proofs.{Events.events_length, Touches.Serves, Touches.written}
use Rattle.core_program.proofs.ActsLeave.{DoneLeaves, Leaves, MayEnter, act_leaves, leaves_same, leaves_steps, leaves_then, limits_hold}
use Rattle.core_program.proofs.Cells.{cleared_above, cleared_below, cleared_gone, filled_above, filled_below, filled_there, frame_length}
use Rattle.core_program.proofs.Ways.{Ran, RanCall, RanFrame, ending, front, of_call}
use Rattle.core_program.proofs.Ways as ways
use Rattle.core_program.specs.{Blocks.cleared, Blocks.filled, Passed.args_at, Passed.cells_entered, ProgramRows.ProgramRows, State.IsSound, State.State}
use Rattle.core_program.specs.{State.stack_end, Tree.ActTree, Tree.way_of, declared.program.Routine.Routine}
use Rattle.core_program.specs.Acts.{Act, ActResult, Answer, Fault, Limited, OutOfSteps, Spend, Trouble, perform}
use Rattle.core_program.specs.Run.{Call, End, Ended, Halted, Marked, Result, call_closed, frame_cells, frame_size, opened, with_frame, without_frame}

-- an end of a part by which the run goes on, or by which it stops
abbrev pub IsProper : End → Type 0
IsProper (Ended out) = Unit {0}
IsProper (Halted WayOut.Returned) = ⊥
IsProper (Halted (WayOut.Jumped label base)) = ⊥
IsProper (Halted way) = Unit {0}

pub proper_stop : (line : ℕ) (why : Trouble) → IsProper (Halted (way_of line why))
proper_stop line (Fault k) = tt
proper_stop line OutOfSteps = tt
proper_stop line (Limited which) = tt

pub record Left (σ : State) (r : Result State Call) : Type 0 where
  pub leaves : Leaves σ r.log (length r.events) r.after
  pub proper : IsProper r.end

-- what was before, and what followed
pub left_front : {σ σ1 : State} {w : List Touch} {r : Result State Call} (es : List (Marked Call)) → Leaves σ w (length es) σ1
    → Left σ1 r → Left σ (front w es r)
left_front {σ = σ} {w = w} {r = r} es f g = record {
  leaves = subst (λ k. Leaves σ (w ++ r.log) k r.after) (sym (events_length (length w) es r.events)) (leaves_then f g.leaves);
  proper = g.proper;
}

pub left_ending : {e : End} (σ : State) → IsProper e → IsSound σ → Left σ (ending e σ)
left_ending σ q s = record { leaves = leaves_same σ s; proper = q }

-- what an act left that was done so
pub act_left : (act : Act) {σ : State} {d : ActResult (Answer act)} → IsSound σ → perform act σ ≡ d → DoneLeaves σ d
act_left act {σ = σ} s q = subst (DoneLeaves σ) q (act_leaves act σ s)

-- ---- calls

-- the stack's part of what is shared, and the heap's
pub shared_so : (base a : ℕ) → is_shared base a ≡ true → (a < base) ⊎ (heap_start ≤ a)
shared_so base a h = by (nat_lt a heap_end) (nat_lt a base) (nat_le heap_start a) refl refl h
  where
    by : (x y z : Bool) → nat_lt a base ≡ y → nat_le heap_start a ≡ z → (x && (y || z)) ≡ true → (a < base) ⊎ (heap_start ≤ a)
    by true true z e f h = inl (grind (arith, nat_tests))
    by true false true e f h = inr (grind (arith, nat_tests))
    by true false false e f h = absurd (let z : false ≡ true = h in cc)
    by false y z e f h = absurd (let z : false ≡ true = h in cc)

-- what is shared at a base is shared above it
pub shared_above : (base n a : ℕ) → is_shared base a ≡ true → is_shared (base + n) a ≡ true
shared_above base n a h = by (nat_lt a heap_end) (nat_lt a base) (nat_lt a (base + n)) (nat_le heap_start a) refl refl h
  where
    by : (x y u z : Bool) → nat_lt a base ≡ y → nat_lt a (base + n) ≡ u → (x && (y || z)) ≡ true → (x && (u || z)) ≡ true
    by true y true z f g h = refl
    by true true false z f g h = absurd (let l : a < base = grind (arith, nat_tests) in let k : base + n ≤ a = grind (arith, nat_tests) in omega arith)
    by true false false z f g h = h
    by false y u z f g h = h

-- a cell that is shared is none of a frame at the base, before and after
pub framed_shared : (σ : State) (q : Routine) (args : List Value) (a : ℕ) → σ.top + frame_size q args ≤ stack_end → is_shared σ.top a ≡ true
    → get (filled σ.top (frame_cells q args) σ.cells) a ≡ get σ.cells a
framed_shared σ q args a k h = elim (shared_so σ.top a h) [
  | inl l ↦ filled_below σ.top (frame_cells q args) σ.cells a l
  | inr l ↦ filled_above σ.top (frame_cells q args) σ.cells a (omega (arith, frame_length q args))
]

pub sound_framed : (q : Routine) (args : List Value) (σ : State) → IsSound σ → σ.top + frame_size q args ≤ stack_end → IsSound (with_frame q args σ)
sound_framed q args σ s k = record {
  stack = λ a h. stack a h (nat_lt a σ.top) refl;
  above_stack = λ a h l. filled_above σ.top (frame_cells q args) σ.cells a (omega (arith, frame_length q args)) ∙ s.above_stack a (omega arith) l;
  above_heap = λ a h. filled_above σ.top (frame_cells q args) σ.cells a (omega (arith, frame_length q args, s.heap_begins)) ∙ s.above_heap a h;
  stack_fits = k;
  heap_begins = s.heap_begins;
  heap_fits = s.heap_fits;
  input = s.input;
  calls = s.calls;
  depth = s.depth;
}
  where
    stack : (a : ℕ) → a < σ.top + frame_size q args → (b : Bool) → nat_lt a σ.top ≡ b → is_some (get (filled σ.top (frame_cells q args) σ.cells) a) ≡ true
    stack a h true e =
        let l : a < σ.top = grind (arith, nat_tests) in
        ap is_some (filled_below σ.top (frame_cells q args) σ.cells a l) ∙ s.stack a l
    stack a h false e =
        let l : σ.top ≤ a = grind (arith, nat_tests) in
        filled_there σ.top (frame_cells q args) σ.cells a l (omega (arith, frame_length q args))

-- a frame was made, something was done, and the frame is removed
pub unframed_leaves : {τ : State} {w : List Touch} {k : ℕ} (q : Routine) (args : List Value) (σ : State) → IsSound σ → σ.top + frame_size q args ≤ stack_end
    → Leaves (with_frame q args σ) w k τ → Leaves σ w k (without_frame σ.top (frame_size q args) τ)
unframed_leaves {τ = τ} {w = w} q args σ s fits h = record {
  top = refl;
  cells = λ a c. after a (shared_so σ.top a c) ∙ h.cells a (shared_above σ.top (frame_size q args) a c) ∙ ap (written a w) (framed_shared σ q args a fits c);
  shows = λ a c. subst (λ o. Serves o a w) (framed_shared σ q args a fits c) (h.shows a (shared_above σ.top (frame_size q args) a c));
  fresh = h.fresh;
  items = h.items;
  place = h.place;
  output = h.output;
  steps = omega (arith, h.steps);
  calls = h.calls;
  depth = h.depth;
  countable = h.countable;
  sound = record {
    stack = λ a l. ap is_some (cleared_below σ.top (frame_size q args) τ.cells a l) ∙ h.sound.stack a (omega (arith, h.top));
    above_stack = λ a l m. above a l m (nat_lt a (σ.top + frame_size q args)) refl;
    above_heap = λ a l. cleared_above σ.top (frame_size q args) τ.cells a (omega (arith, h.sound.heap_begins)) ∙ h.sound.above_heap a l;
    stack_fits = s.stack_fits;
    heap_begins = h.sound.heap_begins;
    heap_fits = h.sound.heap_fits;
    input = h.sound.input;
    calls = h.sound.calls;
    depth = h.sound.depth;
  };
}
  where
    after : (a : ℕ) → (a < σ.top) ⊎ (heap_start ≤ a) → get (cleared σ.top (frame_size q args) τ.cells) a ≡ get τ.cells a
    after a (inl l) = cleared_below σ.top (frame_size q args) τ.cells a l
    after a (inr l) = cleared_above σ.top (frame_size q args) τ.cells a (omega arith)

    above : (a : ℕ) → σ.top ≤ a → a < stack_end → (b : Bool) → nat_lt a (σ.top + frame_size q args) ≡ b
        → get (cleared σ.top (frame_size q args) τ.cells) a ≡ None
    above a l m true e = cleared_gone σ.top (frame_size q args) τ.cells a l (grind (arith, nat_tests))
    above a l m false e =
        let z : σ.top + frame_size q args ≤ a = grind (arith, nat_tests) in
        cleared_above σ.top (frame_size q args) τ.cells a z ∙ h.sound.above_stack a (omega (arith, h.top)) m

pub sound_opened : (σ : State) → IsSound σ → MayEnter σ → IsSound (opened σ)
sound_opened σ s m = record {
  stack = s.stack;
  above_stack = s.above_stack;
  above_heap = s.above_heap;
  stack_fits = s.stack_fits;
  heap_begins = s.heap_begins;
  heap_fits = s.heap_fits;
  input = s.input;
  calls = omega (arith, m.calls);
  depth = omega (arith, m.depth);
}

-- a call was opened, something was done, and it is closed
pub closed_leaves : {τ : State} {w : List Touch} {k : ℕ} (σ : State) → IsSound σ → Leaves (opened σ) w k τ → Leaves σ w (suc k) (call_closed σ.depth τ)
closed_leaves σ s h = record {
  top = h.top;
  cells = h.cells;
  shows = h.shows;
  fresh = h.fresh;
  items = h.items;
  place = h.place;
  output = h.output;
  steps = h.steps;
  calls = omega (arith, h.calls);
  depth = refl;
  countable = h.countable;
  sound = record {
    stack = h.sound.stack;
    above_stack = h.sound.above_stack;
    above_heap = h.sound.above_heap;
    stack_fits = h.sound.stack_fits;
    heap_begins = h.sound.heap_begins;
    heap_fits = h.sound.heap_fits;
    input = h.sound.input;
    calls = h.sound.calls;
    depth = s.depth;
  };
}

-- what is left inside of a call
pub record Inner (σ : State) (y : Result State Call) : Type 0 where
  pub leaves : Leaves σ y.log (suc (length y.events)) y.after
  pub proper : IsProper y.end

pub left_call : {f : ℕ} {args : List Value} {σ : State} {y : Result State Call} → Inner σ y → Left σ (of_call f args σ y)
left_call i = record { leaves = i.leaves; proper = i.proper }

-- ---- each run from a sound state

module _ (p : ProgramRows) where
  mutual
    pub ran_leaves : {n : ℕ} {t : ActTree} {σ : State} {r : Result State Call} → Ran p n t σ r → IsSound σ → Left σ r
    ran_leaves (ways.Returned {σ = σ}) s = left_ending σ tt s
    ran_leaves (ways.Stopped {line = line} {why = why} {σ = σ}) s = left_ending σ (proper_stop line why) s
    ran_leaves (ways.Refused {line = line} {act = act} {why = why} {τ = τ} q) s =
        let l = act_left act s q in
        left_front [] l (left_ending τ (proper_stop line why) l.sound)
    ran_leaves (ways.Acted {act = act} q h) s =
        let l = act_left act s q in
        left_front [] l (ran_leaves h l.sound)
    ran_leaves (ways.PartStopped h e) s = ran_leaves h s
    ran_leaves (ways.PartEnded {r = y} h e g) s =
        let l = (ran_leaves h s).leaves in
        left_front y.events l (ran_leaves g l.sound)
    ran_leaves (ways.AtLimit {σ = σ} q) s = left_ending σ tt s
    ran_leaves (ways.CallStopped {e = e} {σ = σ} q h d) s = left_call (call_leaves h s (limits_hold σ (cells_entered e) q))
    ran_leaves (ways.CallEnded {e = e} {σ = σ} {y = y} q h d g) s =
        let l = (call_leaves h s (limits_hold σ (cells_entered e) q)).leaves in
        left_front (of_call e.routine (args_at e σ.top) σ y).events l (ran_leaves g l.sound)
    ran_leaves (ways.NotBegun {line = line} {why = why} {τ = τ} q) s =
        let l = act_left (Spend 1) s q in
        left_front [] l (left_ending τ (proper_stop line why) l.sound)
    ran_leaves (ways.Began {τ = τ} q h) s =
        let l = act_left (Spend 1) s q in
        left_front [] l (left_front [] (leaves_same τ l.sound) (ran_leaves h l.sound))

    pub frame_leaves : {n f : ℕ} {args : List Value} {σ : State} {r : Result State Call} → RanFrame p n f args σ r → IsSound σ → Left σ r
    frame_leaves (ways.NoRoom {σ = σ} e t) s = left_ending σ tt s
    frame_leaves (ways.NoSteps {σ = σ} e t u) s = record { leaves = leaves_steps σ 0 (omega arith) s; proper = tt }
    frame_leaves (ways.Worked {args = args} {σ = σ} {q = q} e t u h) s =
        let m : σ.top + frame_size q args ≤ stack_end = grind (arith, nat_tests) in
        let l = ran_leaves h (sound_framed q args σ s m) in
        record { leaves = unframed_leaves q args σ s m l.leaves; proper = l.proper }

    pub call_leaves : {n f : ℕ} {args : List Value} {σ : State} {r : Result State Call} → RanCall p n f args σ r → IsSound σ → MayEnter σ → Inner σ r
    call_leaves (ways.Closed {σ = σ} c h) s m =
        let l = frame_leaves h (sound_opened σ s m) in
        record { leaves = closed_leaves σ s l.leaves; proper = l.proper }
