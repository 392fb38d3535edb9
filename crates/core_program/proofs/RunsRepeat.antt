-- Two states that agree on what a run's touches show of the first give the same run.
use Rattle.std.proofs.Common.{if◌then◌else◌, ◌++◌, ◌+◌, ◌∙◌, ◌∷◌, ◌≡◌, ◌≤◌, [], ℕ, Bool, List, None, Option, Some, ap, append_assoc, arith, false, inl, inr}
use Rattle.std.proofs.Common.{length, nat_lt, refl, subst, suc, sym, zero}
use Rattle.std.{proofs.lemmas.Bool.Decides.eqb_tells, proofs.lemmas.Bool.Decides.nat_tests, specs.FinMap.insert, specs.FinMap.remove}
use Rattle.cell_value.specs.declared.{entries.Touch.Touch, values.Value.Value, ways_out.WayOut.WayOut, ways_out.Which.Which, ways_out.Which.TheVariants.Stack}
use Rattle.core_program.proofs.{Effects.SameLog, Effects.same_append, Events.events_append, Events.events_length, Events.unmarked, Touches.Serves}
use Rattle.core_program.proofs.ActsLeave.{Leaves, MayEnter, leaves_same, limits_hold}
use Rattle.core_program.proofs.ActsRepeat.{Agree, DoneAgain, InStep, IsFault, SameCells, act_again, limit_none, step_same}
use Rattle.core_program.proofs.Cells.{Map, got_other, got_same, removed_other, removed_same}
use Rattle.core_program.proofs.RunsLeave.{act_left, call_leaves, ran_leaves, sound_framed, sound_opened}
use Rattle.core_program.proofs.Ways.{Ran, RanCall, RanFrame, ending, front, inside, of_call}
use Rattle.core_program.proofs.Ways as ways
use Rattle.core_program.specs.{Agree.EndedByItself, Blocks.cleared, Blocks.filled, Passed.Entering, Passed.args_at, Passed.cells_entered}
use Rattle.core_program.specs.{ProgramRows.ProgramRows, ProgramRows.routine_at, Tree.ActTree, Tree.Out, Tree.way_of, declared.program.Routine.Routine}
use Rattle.core_program.specs.Acts.{Fault, Limited, OutOfSteps, Spend, Trouble, perform, spent}
use Rattle.core_program.specs.Run.{Call, End, Ended, Halted, Marked, Outcome, Result, after_all, at_work, call_closed, call_of, ends, frame_cells, frame_size}
use Rattle.core_program.specs.Run.{if_allowed, in_frame, in_front, joined, on_done, on_end, opened, plain, recorded, run_of, whole, with_frame, without_frame}
use Rattle.core_program.specs.State.{IsSound, State, most_calls, most_depth, stack_end}

-- an end that a record may stand for
abbrev pub EndsByItself : End → Type 0
EndsByItself (Ended out) = Unit {0}
EndsByItself (Halted way) = EndedByItself way

-- calls from depth d on stand within the limit where they are begun from depth e
abbrev pub Shallow : (d e : ℕ) → List Call → Type 0
Shallow d e [] = Unit {0}
Shallow d e (c ∷ cs) = (c.depth + e ≤ most_depth + d) × Shallow d e cs

-- a run that ended by itself, and a second state that has steps, calls and depth enough for it
pub record Room (σ τ : State) (r : Result State Call) : Type 0 where
  pub itself : EndsByItself r.end
  pub steps : σ.steps ≤ τ.steps + r.after.steps
  pub calls : τ.calls + length r.events ≤ most_calls
  pub depth : Shallow σ.depth τ.depth (unmarked r.events)

shallow_left : (d e : ℕ) (cs ds : List Call) → Shallow d e (cs ++ ds) → Shallow d e cs
shallow_left d e [] ds h = tt
shallow_left d e (c ∷ cs) ds h = (h.0, shallow_left d e cs ds h.1)

shallow_right : (d e : ℕ) (cs ds : List Call) → Shallow d e (cs ++ ds) → Shallow d e ds
shallow_right d e [] ds h = h
shallow_right d e (c ∷ cs) ds h = shallow_right d e cs ds h.1

shallow_suc : (d e : ℕ) (cs : List Call) → Shallow d e cs → Shallow (d + 1) (e + 1) cs
shallow_suc d e [] h = tt
shallow_suc d e (c ∷ cs) h = (omega (arith, h.0), shallow_suc d e cs h.1)

-- the same run from the second state
pub record Again (from to : ℕ) (r : Result State Call) (v : List Touch) (σ τ : State) (x : Outcome) : Type 0 where
  pub run : Result State Call
  pub is : x ≡ Some run
  pub end : run.end ≡ r.end
  pub log : SameLog from to r.log run.log
  pub agree : Agree from to v r.after run.after
  pub step : InStep σ τ r.after run.after

-- so it is from each second state that agrees
abbrev pub Repeated : (σ : State) (r : Result State Call) → (State → Outcome) → Type 0
Repeated σ r h = (from to : ℕ) (τ : State) (v : List Touch) → Agree from to (r.log ++ v) σ τ → Room σ τ r → Again from to r v σ τ (h τ)

again_at : {from to : ℕ} {r : Result State Call} {v : List Touch} {σ τ : State} {x y : Outcome} → x ≡ y → Again from to r v σ τ y → Again from to r v σ τ x
again_at e a = record { run = a.run; is = e ∙ a.is; end = a.end; log = a.log; agree = a.agree; step = a.step }

ends_again : (e : End) (σ : State) → Repeated σ (ending e σ) (λ τ. ends e τ)
ends_again e σ = λ from to τ v a k. record {
  run = ending e τ;
  is = refl;
  end = refl;
  log = refl;
  agree = a;
  step = step_same σ τ;
}

step_then : {σ τ σ1 τ1 σ2 τ2 : State} → InStep σ τ σ1 τ1 → InStep σ1 τ1 σ2 τ2 → InStep σ τ σ2 τ2
step_then f g = record { steps = omega (arith, f.steps, g.steps); calls = omega (arith, f.calls, g.calls); depth = omega (arith, f.depth, g.depth) }

-- the room of what follows
room_after : {σ τ σ1 τ1 : State} {w : List Touch} (es : List (Marked Call)) (r2 : Result State Call) → Leaves σ w (length es) σ1 → InStep σ τ σ1 τ1
    → Room σ τ (front w es r2) → Room σ1 τ1 r2
room_after {σ = σ} {τ = τ} {τ1 = τ1} {w = w} es r2 l s k = record {
  itself = k.itself;
  steps = omega (arith, s.steps, k.steps);
  calls = omega (arith, s.calls, l.calls, k.calls, events_length (length w) es r2.events);
  depth = subst (λ d. Shallow d τ1.depth (unmarked r2.events)) (sym l.depth)
      (subst (λ e. Shallow σ.depth e (unmarked r2.events)) (let e : τ.depth ≡ τ1.depth = omega (arith, s.depth, l.depth) in e)
      (shallow_right σ.depth τ.depth (unmarked es) (unmarked r2.events) (subst (Shallow σ.depth τ.depth) (events_append (length w) es r2.events) k.depth)));
}

-- what was before, from the first state and again from the second
record Before (from to : ℕ) (w : List Touch) (σ τ σ1 τ1 : State) : Type 0 where
  calls : List (Marked Call)
  leaves : Leaves σ w (length calls) σ1
  log : List Touch
  events : List (Marked Call)
  same : SameLog from to w log
  step : InStep σ τ σ1 τ1

-- what was before, and what followed
front_again : {g : State → Outcome} {w : List Touch} {σ τ σ1 τ1 : State} {from to : ℕ} {v : List Touch} (r : Result State Call)
    → (b : Before from to w σ τ σ1 τ1) → Agree from to (r.log ++ v) σ1 τ1 → Room σ τ (front w b.calls r) → Repeated σ1 r g
    → Again from to (front w b.calls r) v σ τ (in_front b.log b.events (g τ1))
front_again {w = w} {σ = σ} {τ = τ} {σ1 = σ1} {τ1 = τ1} {from = from} {to = to} {v = v} r b a k h =
    let c = h from to τ1 v a (room_after b.calls r b.leaves b.step k) in
    record {
      run = front b.log b.events c.run;
      is = ap (in_front b.log b.events) c.is;
      end = c.end;
      log = same_append from to w r.log b.log c.run.log b.same c.log;
      agree = c.agree;
      step = step_then b.step c.step;
    }

stop_fault : (line : ℕ) (why : Trouble) → EndsByItself (Halted (way_of line why)) → IsFault why
stop_fault line (Fault k) h = tt
stop_fault line OutOfSteps h = h
stop_fault line (Limited which) h = h

-- a part or a call that stops the run
stopped_again : {from to : ℕ} {r : Result State Call} {v : List Touch} {σ τ : State} {x : Outcome} {way : WayOut} (g : Out → State → Outcome)
    → Again from to r v σ τ x → r.end ≡ Halted way → Again from to r v σ τ (joined x g)
stopped_again g b e = record {
  run = b.run;
  is = ap (λ x. joined x g) b.is ∙ ap (λ d. on_end d b.run g) (b.end ∙ e);
  end = b.end;
  log = b.log;
  agree = b.agree;
  step = b.step;
}

-- or one that ends, and what follows it
ended_again : {from to : ℕ} {y z : Result State Call} {v : List Touch} {σ τ : State} {x : Outcome} {out : Out} (g : Out → State → Outcome)
    → Again from to y (z.log ++ v) σ τ x → y.end ≡ Ended out → Leaves σ y.log (length y.events) y.after → Room σ τ (front y.log y.events z)
    → Repeated y.after z (g out) → Again from to (front y.log y.events z) v σ τ (joined x g)
ended_again {y = y} {z = z} g b e l k h =
    again_at (ap (λ x. joined x g) b.is ∙ ap (λ d. on_end d b.run g) (b.end ∙ e))
    (front_again z (record { calls = y.events; leaves = l; log = b.run.log; events = b.run.events; same = b.log; step = b.step }) b.agree k h)

-- the room of what comes first
room_before : {σ τ : State} {out : Out} (y z : Result State Call) → Room σ τ (front y.log y.events z) → z.after.steps ≤ y.after.steps → y.end ≡ Ended out
    → Room σ τ y
room_before {σ = σ} {τ = τ} y z k m e = record {
  itself = subst EndsByItself (sym e) tt;
  steps = omega (arith, k.steps);
  calls = omega (arith, k.calls, events_length (length y.log) y.events z.events);
  depth = shallow_left σ.depth τ.depth (unmarked y.events) (unmarked z.events)
      (subst (Shallow σ.depth τ.depth) (events_append (length y.log) y.events z.events) k.depth);
}

-- ---- frames

same_insert : (w : List Touch) (m k : Map) (a : ℕ) (v : Value) → SameCells w m k → SameCells w (insert m a v) (insert k a v)
same_insert w m k a v h = λ b. elim (eqb_tells b a) [
  | inl s ↦ inl (got_same m a v b s.1 ∙ sym (got_same k a v b s.1))
  | inr s ↦ elim (h b) [
    | inl q ↦ inl (got_other m a v b s.1 ∙ q ∙ sym (got_other k a v b s.1))
    | inr q ↦ inr (subst (λ o. Serves o b w) (sym (got_other k a v b s.1)) q)
  ]
]

same_remove : (w : List Touch) (m k : Map) (a : ℕ) → SameCells w m k → SameCells w (remove m a) (remove k a)
same_remove w m k a h = λ b. elim (eqb_tells b a) [
  | inl s ↦ inl (removed_same m a b s.1 ∙ sym (removed_same k a b s.1))
  | inr s ↦ elim (h b) [
    | inl q ↦ inl (removed_other m a b s.1 ∙ q ∙ sym (removed_other k a b s.1))
    | inr q ↦ inr (subst (λ o. Serves o b w) (sym (removed_other k a b s.1)) q)
  ]
]

same_filled : (w : List Touch) (base : ℕ) (vs : List Value) (m k : Map) → SameCells w m k → SameCells w (filled base vs m) (filled base vs k)
same_filled w base [] m k h = h
same_filled w base (v ∷ vs) m k h = same_filled w (base + 1) vs (insert m base v) (insert k base v) (same_insert w m k base v h)

same_cleared : (w : List Touch) (base n : ℕ) (m k : Map) → SameCells w m k → SameCells w (cleared base n m) (cleared base n k)
same_cleared w base zero m k h = h
same_cleared w base (suc n) m k h = same_cleared w (base + 1) n (remove m base) (remove k base) (same_remove w m k base h)

agree_framed : {from to : ℕ} {w : List Touch} {σ τ : State} (q : Routine) (args : List Value) → Agree from to w σ τ
    → Agree from to w (with_frame q args σ) (with_frame q args τ)
agree_framed {w = w} {σ = σ} {τ = τ} q args h = record {
  top = ap (λ b. b + frame_size q args) h.top;
  fresh = h.fresh;
  cells = subst (λ b. SameCells w (filled σ.top (frame_cells q args) σ.cells) (filled b (frame_cells q args) τ.cells)) h.top
      (same_filled w σ.top (frame_cells q args) σ.cells τ.cells h.cells);
  place = h.place;
  items = h.items;
}

agree_unframed : {from to : ℕ} {w : List Touch} {σ τ : State} (n base base' : ℕ) → base ≡ base' → Agree from to w σ τ
    → Agree from to w (without_frame base n σ) (without_frame base' n τ)
agree_unframed {w = w} {σ = σ} {τ = τ} n base base' e h = record {
  top = e;
  fresh = h.fresh;
  cells = subst (λ b. SameCells w (cleared base n σ.cells) (cleared b n τ.cells)) e (same_cleared w base n σ.cells τ.cells h.cells);
  place = h.place;
  items = h.items;
}

-- ---- calls

-- room for what is inside of a call: the call itself is one
pub record InnerRoom (σ τ : State) (r : Result State Call) : Type 0 where
  pub itself : EndsByItself r.end
  pub steps : σ.steps ≤ τ.steps + r.after.steps
  pub calls : τ.calls + (length r.events + 1) ≤ most_calls
  pub depth : Shallow σ.depth τ.depth (unmarked r.events)

-- there is room for a call, and for what is inside of it
room_inside : {f : ℕ} {args : List Value} {σ τ : State} {y : Result State Call} → Room σ τ (of_call f args σ y) → InnerRoom σ τ y × MayEnter τ
room_inside k = (
  record { itself = k.itself; steps = k.steps; calls = omega (arith, k.calls); depth = k.depth.1 },
  record { calls = omega (arith, k.calls); depth = omega (arith, k.depth.0) },
)

module _ (p : ProgramRows) where
  abbrev next_of : ℕ → (Out → ActTree) → Out → State → Outcome
  next_of n next out τ = run_of p (suc n) (next out) τ

  abbrev entered : ℕ → Entering → (base : ℕ) → (Out → ActTree) → Option Which → State → Outcome
  entered n e base next o τ = if_allowed o τ (joined (call_of p (run_of p n) e.routine (args_at e base) τ) (next_of n next))

  abbrev choice : ℕ → ℕ → List Value → Routine → State → Bool → Bool → Outcome
  choice n f args q τ a b =
      if a then ends (Halted (way_of 0 (Limited Stack))) τ
      else if b then ends (Halted (way_of 0 OutOfSteps)) (spent τ)
      else after_all (without_frame τ.top (frame_size q args)) (run_of p n (whole p f τ.top q) (with_frame q args τ))

  abbrev pub InsideAgain : (n f : ℕ) → List Value → State → Result State Call → Type 0
  InsideAgain n f args σ r = (from to : ℕ) (τ : State) (v : List Touch) → Agree from to (r.log ++ v) σ τ → InnerRoom σ τ r
      → Again from to r v σ τ (inside p (run_of p n) f args τ)

  -- a call, with its record
  called_again : (n f : ℕ) (args : List Value) {σ τ : State} {y : Result State Call} {from to : ℕ} {v : List Touch}
      → Again from to y v σ τ (inside p (run_of p n) f args τ) → Again from to (of_call f args σ y) v σ τ (call_of p (run_of p n) f args τ)
  called_again n f args {τ = τ} b = record {
    run = of_call f args τ b.run;
    is = ap (recorded f args τ) b.is;
    end = b.end;
    log = b.log;
    agree = b.agree;
    step = b.step;
  }

  mutual
    -- each run is the same again
    pub ran_again : {n : ℕ} {t : ActTree} {σ : State} {r : Result State Call} → Ran p n t σ r → IsSound σ → Repeated σ r (run_of p n t)
    ran_again (ways.Returned {out = out} {σ = σ}) s = ends_again (Ended out) σ
    ran_again (ways.Stopped {line = line} {why = why} {σ = σ}) s = ends_again (Halted (way_of line why)) σ
    ran_again (ways.Refused {n = n} {line = line} {act = act} {next = next} {σ = σ} {why = why} {w = w} {τ = ρ} q) s = λ from to τ v a k.
        let d = (subst (λ d. DoneAgain from to d (perform act τ) σ τ v) q (act_again from to act σ τ v))
        (subst (λ u. Agree from to u σ τ) (append_assoc w [] v) a) k.steps (stop_fault line why k.itself) in
        again_at (ap (λ d. on_done (plain p) line τ d (λ x τ. run_of p (suc n) (next x) τ)) d.is)
        (front_again (ending (Halted (way_of line why)) ρ)
        (record { calls = []; leaves = act_left act s q; log = d.log; events = []; same = d.same; step = d.step }) d.agree k
        (ends_again (Halted (way_of line why)) ρ))
    ran_again (ways.Acted {n = n} {line = line} {act = act} {next = next} {σ = σ} {x = x} {w = w} {r = y} q h) s = λ from to τ v a k.
        let l = act_left act s q in
        let m = (ran_leaves p h l.sound).leaves.steps in
        let d = (subst (λ d. DoneAgain from to d (perform act τ) σ τ (y.log ++ v)) q (act_again from to act σ τ (y.log ++ v)))
        (subst (λ u. Agree from to u σ τ) (append_assoc w y.log v) a) (omega (arith, k.steps, m)) tt in
        again_at (ap (λ d. on_done (plain p) line τ d (λ x τ. run_of p (suc n) (next x) τ)) d.is)
        (front_again y (record { calls = []; leaves = l; log = d.log; events = []; same = d.same; step = d.step }) d.agree k (ran_again h l.sound))
    ran_again (ways.PartStopped {n = n} {next = next} h e) s = λ from to τ v a k. stopped_again (next_of n next) (ran_again h s from to τ v a k) e
    ran_again (ways.PartEnded {n = n} {next = next} {σ = σ} {r = y} {s = z} h e g) s = λ from to τ v a k.
        let l = (ran_leaves p h s).leaves in
        let m = (ran_leaves p g l.sound).leaves.steps in
        ended_again (next_of n next) (ran_again h s from to τ (z.log ++ v) (subst (λ w. Agree from to w σ τ) (append_assoc y.log z.log v) a)
        (room_before y z k m e)) e l k (ran_again g l.sound)
    ran_again (ways.AtLimit q) s = λ from to τ v a k. absurd k.itself
    ran_again (ways.CallStopped {n = n} {e = e} {next = next} {σ = σ} {y = y} q h d) s = λ from to τ v a k.
        let m = room_inside k in
        again_at (ap (λ o. entered n e τ.top next o τ) (limit_none σ τ (cells_entered e) a.top q m.1) ∙ ap (λ b. entered n e b next None τ) (sym a.top))
        (stopped_again (next_of n next)
        (called_again n e.routine (args_at e σ.top) (call_again h s (limits_hold σ (cells_entered e) q) from to τ v a m.0)) d)
    ran_again (ways.CallEnded {n = n} {e = e} {next = next} {σ = σ} {y = y} {s = z} q h d g) s = λ from to τ v a k.
        let l = (call_leaves p h s (limits_hold σ (cells_entered e) q)).leaves in
        let i = (ran_leaves p g l.sound).leaves.steps in
        let m = room_inside (room_before (of_call e.routine (args_at e σ.top) σ y) z k i d) in
        again_at (ap (λ o. entered n e τ.top next o τ) (limit_none σ τ (cells_entered e) a.top q m.1) ∙ ap (λ b. entered n e b next None τ) (sym a.top))
        (ended_again (next_of n next)
        (called_again n e.routine (args_at e σ.top) (call_again h s (limits_hold σ (cells_entered e) q) from to τ (z.log ++ v)
        (subst (λ w. Agree from to w σ τ) (append_assoc y.log z.log v) a) m.0)) d l k (ran_again g l.sound))
    ran_again (ways.NotBegun {n = n} {line = line} {next = next} {σ = σ} {why = why} {w = w} {τ = ρ} q) s = λ from to τ v a k.
        let d = (subst (λ d. DoneAgain from to d (perform (Spend 1) τ) σ τ v) q (act_again from to (Spend 1) σ τ v))
        (subst (λ u. Agree from to u σ τ) (append_assoc w [] v) a) k.steps (stop_fault line why k.itself) in
        again_at (ap (λ d. on_done (plain p) line τ d (λ x υ. in_front [] [] (run_of p (suc n) next υ))) d.is)
        (front_again (ending (Halted (way_of line why)) ρ)
        (record { calls = []; leaves = act_left (Spend 1) s q; log = d.log; events = []; same = d.same; step = d.step }) d.agree k
        (ends_again (Halted (way_of line why)) ρ))
    ran_again (ways.Began {n = n} {line = line} {next = next} {σ = σ} {w = w} {τ = ρ} {r = y} q h) s = λ from to τ v a k.
        let l = act_left (Spend 1) s q in
        let m = (ran_leaves p h l.sound).leaves.steps in
        let d = (subst (λ d. DoneAgain from to d (perform (Spend 1) τ) σ τ (y.log ++ v)) q (act_again from to (Spend 1) σ τ (y.log ++ v)))
        (subst (λ u. Agree from to u σ τ) (append_assoc w y.log v) a) (omega (arith, k.steps, m)) tt in
        again_at (ap (λ d. on_done (plain p) line τ d (λ x υ. in_front [] [] (run_of p (suc n) next υ))) d.is)
        (front_again (front [] [] y) (record { calls = []; leaves = l; log = d.log; events = []; same = d.same; step = d.step }) d.agree k
        (λ from' to' τ' v' a' k'. front_again y
        (record { calls = []; leaves = leaves_same ρ l.sound; log = []; events = []; same = refl; step = step_same ρ τ' }) a' k' (ran_again h l.sound)))

    frame_again : {n f : ℕ} {args : List Value} {σ : State} {r : Result State Call} → RanFrame p n f args σ r → IsSound σ
        → Repeated σ r (λ τ. in_frame (at_work p (run_of p n) f) args τ (routine_at p f))
    frame_again (ways.NoRoom e t) s = λ from to τ v a k. absurd k.itself
    frame_again (ways.NoSteps e t u) s = λ from to τ v a k. absurd k.itself
    frame_again (ways.Worked {n = n} {f = f} {args = args} {σ = σ} {q = q} {y = y} e t u h) s = λ from to τ v a k.
        let m : σ.top + frame_size q args ≤ stack_end = grind (arith, nat_tests) in
        let sound = sound_framed q args σ s m in
        let left = ran_leaves p h sound in
        let j : frame_size q args ≤ σ.steps = grind (arith, nat_tests) in
        let steps : frame_size q args ≤ τ.steps = omega (arith, j, k.steps, left.leaves.steps) in
        let x : nat_lt stack_end (τ.top + frame_size q args) ≡ false =
        (let z : τ.top + frame_size q args ≤ stack_end = omega (arith, a.top) in grind (arith, nat_tests)) in
        let z : nat_lt τ.steps (frame_size q args) ≡ false = grind (arith, nat_tests) in
        let b = ran_again h sound from to (with_frame q args τ) v (agree_framed q args a)
        (record { itself = k.itself; steps = omega (arith, j, steps, k.steps); calls = k.calls; depth = k.depth }) in
        record {
          run = record { end = b.run.end; after = without_frame τ.top (frame_size q args) b.run.after; log = b.run.log; events = b.run.events };
          is = ap (in_frame (at_work p (run_of p n) f) args τ) e ∙ ap (λ a. choice n f args q τ a (nat_lt τ.steps (frame_size q args))) x
              ∙ ap (choice n f args q τ false) z
              ∙ ap (λ base. after_all (without_frame τ.top (frame_size q args)) (run_of p n (whole p f base q) (with_frame q args τ))) (sym a.top)
              ∙ ap (after_all (without_frame τ.top (frame_size q args))) b.is;
          end = b.end;
          log = b.log;
          agree = agree_unframed (frame_size q args) σ.top τ.top a.top b.agree;
          step = record { steps = omega (arith, j, steps, b.step.steps); calls = b.step.calls; depth = b.step.depth };
        }

    pub call_again : {n f : ℕ} {args : List Value} {σ : State} {r : Result State Call} → RanCall p n f args σ r → IsSound σ → MayEnter σ
        → InsideAgain n f args σ r
    call_again (ways.Closed {n = n} {f = f} {args = args} {σ = σ} {y = y} c h) s m = λ from to τ v a k.
        let b = frame_again h (sound_opened σ s m) from to (opened τ) v
        (record { top = a.top; fresh = a.fresh; cells = a.cells; place = a.place; items = a.items })
        (record {
          itself = k.itself;
          steps = k.steps;
          calls = omega (arith, k.calls);
          depth = shallow_suc σ.depth τ.depth (unmarked y.events) k.depth;
        }) in
        record {
          run = record { end = b.run.end; after = call_closed τ.depth b.run.after; log = b.run.log; events = b.run.events };
          is = ap (after_all (call_closed τ.depth)) b.is;
          end = b.end;
          log = b.log;
          agree = record { top = b.agree.top; fresh = b.agree.fresh; cells = b.agree.cells; place = b.agree.place; items = b.agree.items };
          step = record { steps = b.step.steps; calls = omega (arith, b.step.calls); depth = omega arith };
        }
