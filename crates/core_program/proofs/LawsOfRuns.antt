-- The laws, for every program, input and budget.
use Rattle.std.proofs.Common.{◌++◌, ◌+◌, ◌<◌, ◌∙◌, ◌∷◌, ◌≡◌, ◌≤◌, [], ℕ, All, List, Some, ap, append-nil, arith, drop, length, refl, subst, suc, sym, take}
use Rattle.std.proofs.{Common.zero, lemmas.List.Elements.All-cons, lemmas.List.Elements.All-nil}
use Rattle.std.specs.{FinMap.get-empty, List.slice_get, List.slice_index_or, Ordering.nat_cmp}
use Rattle.cell_value.specs.{Effects.IsCountable, declared.values.Value.Value}
use Rattle.core_program.proofs.{ActsLeave.DoneLeaves, ActsLeave.act_leaves, BodiesRepeat.Meets, BodiesRepeat.Redo, BodiesRepeat.call_redo, Events.unmarked}
use Rattle.core_program.proofs.{OutcomesCompose.none_some, OutcomesCompose.some_same, RunsLeave.call_leaves, RunsLeave.ran_leaves, RunsRecord.MadeBy}
use Rattle.core_program.proofs.{RunsRecord.Recorded, RunsRecord.ran_records, Ways.call_at, Ways.gives_call, Ways.run_gives}
use Rattle.core_program.specs.{Layer.layer, ProgramRows.ProgramRows, ProgramRows.routine_at, Tree.Part, WholeTables.WholeTables}
use Rattle.core_program.specs.Acts.{Act, ActResult, Stops, Went, perform}
use Rattle.core_program.specs.Replay.{Event, body, in_replaying, on_state, replay_of}
use Rattle.core_program.specs.Run.{Call, Marked, Result, after_all, at_work, block, call_closed, call_of, depth_enough, framed_run, input_items, opened}
use Rattle.core_program.specs.Run.{result_in, run, run_of, start, way_out}
use Rattle.core_program.specs.RunLaws.{HasFewItems, IsBody, IsMet, IsSoundAfter, MeetsItems, ShowsCountable, calls_in}
use Rattle.core_program.specs.State.{IsSound, State, most_calls, most_depth}

-- ---- sound states

pub begins_sound : (input : List ℕ) (budget : ℕ) → IsSound (start input budget)
begins_sound input budget = record {
  stack = λ addr h. absurd (omega arith);
  above_stack = λ addr h k. get-empty nat_cmp addr;
  above_heap = λ addr h. get-empty nat_cmp addr;
  stack_fits = omega arith;
  heap_begins = omega arith;
  heap_fits = omega arith;
  input = omega arith;
  calls = omega arith;
  depth = omega arith;
}

after_done : {A : Type 0} (σ : State) (d : ActResult A) → DoneLeaves σ d → IsSoundAfter d
after_done σ (Went x w τ) h = h.sound
after_done σ (Stops why w τ) h = h.sound

pub acts_sound : (act : Act) (σ : State) → IsSound σ → IsSoundAfter (perform act σ)
acts_sound act σ s = after_done σ (perform act σ) (act_leaves act σ s)

pub parts_sound : (p : ProgramRows) (depth : ℕ) (part : Part) (σ : State) (r : Result State Call) → IsSound σ → run_of p depth (layer p part) σ ≡ Some r
    → IsSound r.after
parts_sound p depth part σ r s e = (ran_leaves p (run_gives p depth (layer p part) σ r e) s).leaves.sound

pub calls_sound : (p : ProgramRows) (depth routine : ℕ) (args : List Value) (σ : State) (r : Result State Call) → IsSound σ → σ.calls < most_calls
    → σ.depth ≤ most_depth → call_of p (run_of p depth) routine args σ ≡ Some r → IsSound r.after
calls_sound p depth routine args σ r s m d e = gives_call p depth (run_gives p depth) (λ r. IsSound r.after) routine args σ
    (λ y h. (call_leaves p h s (record { calls = m; depth = d })).leaves.sound) r e

-- ---- the records of a run

pub all_recorded : (p : ProgramRows) (input : List ℕ) (budget : ℕ) (r : Result State Call) → run p input budget ≡ Some r
    → Recorded p (input_items input) (calls_in r)
all_recorded p input budget r e =
    ran_records p (input_items input) (run_gives p (depth_enough p budget) block (start input budget) r e) (begins_sound input budget) refl

one_recorded : (p : ProgramRows) (xs : List ℕ) (cs : List Call) (k : ℕ) (c : Call) → Recorded p xs cs → slice_get cs k ≡ Some c
    → MadeBy p c (drop (k + 1) cs)
one_recorded p xs [] k c h e = absurd (none_some e)
one_recorded p xs (d ∷ cs) zero c h e = subst (λ c. MadeBy p c cs) (some_same e) h.0
one_recorded p xs (d ∷ cs) (suc k) c h e =
    subst (λ n. MadeBy p c (drop n (d ∷ cs))) (let q : suc (k + 1) ≡ suc k + 1 = omega arith in q) (one_recorded p xs cs k c h.2 e)

pub made : (p : ProgramRows) (input : List ℕ) (budget : ℕ) (r : Result State Call) → run p input budget ≡ Some r → (k : ℕ) (c : Call)
    → slice_get (calls_in r) k ≡ Some c
    → MadeBy p c (drop (k + 1) (calls_in r))
made p input budget r e k c h = one_recorded p (input_items input) (calls_in r) k c (all_recorded p input budget r e) h

pub made_sound : (p : ProgramRows) (c : Call) (cs : List Call) → MadeBy p c cs → IsSound c.entry × IsSound c.exit
made_sound p c cs h = (h.sound, subst IsSound (ap (λ (c : Call). c.exit) h.record') (call_leaves p h.ran h.sound h.limits).leaves.sound)

-- ---- the items of the input

recorded_items : (p : ProgramRows) (xs : List ℕ) (cs : List Call) → Recorded p xs cs → All (MeetsItems xs) cs
recorded_items p xs [] h = All-nil (MeetsItems xs)
recorded_items p xs (c ∷ cs) h =
    let l = (call_leaves p h.0.ran h.0.sound h.0.limits).leaves in
    All-cons (MeetsItems xs) c cs (record { before = h.1; after = ap (λ (c : Call). c.exit.items) (sym h.0.record') ∙ l.items ∙ h.1 })
    (recorded_items p xs cs h.2)

pub runs_items : (p : ProgramRows) (input : List ℕ) (budget : ℕ) (r : Result State Call) → run p input budget ≡ Some r
    → All (MeetsItems (input_items input)) (calls_in r)
runs_items p input budget r e = recorded_items p (input_items input) (calls_in r) (all_recorded p input budget r e)

-- ---- what can be counted

countable_after : {A : Type 0} (σ : State) (d : ActResult A) → DoneLeaves σ d → HasFewItems σ → ShowsCountable d
countable_after σ (Went x w τ) h m = h.countable m
countable_after σ (Stops why w τ) h m = h.countable m

pub acts_countable : (act : Act) (σ : State) → IsSound σ → HasFewItems σ → ShowsCountable (perform act σ)
acts_countable act σ s m = countable_after σ (perform act σ) (act_leaves act σ s) m

pub parts_countable : (p : ProgramRows) (depth : ℕ) (part : Part) (σ : State) (r : Result State Call) → IsSound σ → HasFewItems σ
    → run_of p depth (layer p part) σ ≡ Some r → All IsCountable r.log
parts_countable p depth part σ r s m e = (ran_leaves p (run_gives p depth (layer p part) σ r e) s).leaves.countable m

pub calls_countable : (p : ProgramRows) (depth routine : ℕ) (args : List Value) (σ : State) (r : Result State Call) → IsSound σ → HasFewItems σ
    → σ.calls < most_calls → σ.depth ≤ most_depth → call_of p (run_of p depth) routine args σ ≡ Some r → All IsCountable r.log
calls_countable p depth routine args σ r s n m d e = gives_call p depth (run_gives p depth) (λ r. All IsCountable r.log) routine args σ
    (λ y h. (call_leaves p h s (record { calls = m; depth = d })).leaves.countable n) r e

pub made_countable : (p : ProgramRows) (c : Call) (cs : List Call) → MadeBy p c cs → HasFewItems c.entry → All IsCountable c.log
made_countable p c cs h m =
    subst (All IsCountable) (ap (λ (c : Call). c.log) h.record') ((call_leaves p h.ran h.sound h.limits).leaves.countable m)

-- ---- bodies

all_met : (n : ℕ) (cs : List Call) (es : List (Marked Event)) → Meets n cs es → All (λ e. IsMet n cs e.event) es
all_met n cs [] h = λ k d l. absurd (omega arith)
all_met n cs (e ∷ es) h = λ k d l. by k d l (all_met n cs es h.1)
  where
    by : (k : ℕ) (d : Marked Event) → k < length (e ∷ es) → All (λ e. IsMet n cs e.event) es → IsMet n cs (slice_index_or (e ∷ es) k d).event
    by zero d l g = h.0
    by (suc k) d l g = g k d (omega arith)

pub body_is : (p : ProgramRows) → WholeTables p → (k : ℕ) (c : Call) (cs : List Call) → MadeBy p c cs → (depth : ℕ) → depth_enough p c.entry.steps ≤ depth
    → IsBody k c (take c.below cs) (body p depth c k (take c.below cs))
body_is p W k c cs h depth deep =
    let a = call_redo p (call_at W h.ran depth deep) h.sound h.limits (k + 1) [] in
    let l : unmarked h.result.events ++ [] ≡ take c.below cs = append-nil (unmarked h.result.events) ∙ h.calls in
    let d : c.entry.depth ≡ c.depth = ap (λ (c : Call). c.depth) h.record' in
    let b : Redo (k + 1) h.result [] (body p depth c k (take c.below cs)) =
    subst (λ m. Redo (k + 1) h.result [] (after_all (on_state (call_closed m))
    (framed_run in_replaying (at_work p (replay_of p depth) c.routine) c.args
    (record { state = opened c.entry; number = k + 1; calls = take c.below cs }) (routine_at p c.routine)))) d
    (subst (λ l. Redo (k + 1) h.result [] (after_all (on_state (call_closed c.entry.depth))
    (framed_run in_replaying (at_work p (replay_of p depth) c.routine) c.args
    (record { state = opened c.entry; number = k + 1; calls = l }) (routine_at p c.routine)))) l a) in
    record {
      run = b.run;
      is = b.is;
      way = ap way_out b.end ∙ ap (λ (c : Call). c.way) h.record';
      result = ap result_in b.end ∙ ap (λ (c : Call). c.result) h.record';
      exit = ap (λ s. s.state) b.after ∙ ap (λ (c : Call). c.exit) h.record';
      met = all_met (k + 1) (take c.below cs) b.run.events (subst (λ l. Meets (k + 1) l b.run.events) h.calls b.meets);
      used = ap (λ s. s.calls) b.after;
    }
