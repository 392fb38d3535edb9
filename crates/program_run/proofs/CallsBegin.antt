-- What is left of a call once its frame was made, or not.
use Rattle.std.proofs.Common.{if◌then◌else◌, ◌++◌, ◌+◌, ◌∙◌, ◌≡◌, ◌≤◌, [], ℕ, Bool, List, Some, ap, append-nil, arith, false, nat_lt, subst, sym, true}
use Rattle.cell_value.specs.declared.{entries.Touch.Touch, values.Value.Value, ways_out.Which.TheVariants.Stack}
use Rattle.core_program.specs.{ProgramRows.ProgramRows, ProgramRows.routine_at, State.State, State.stack_end, Tree.way_of, declared.program.Routine.Routine}
use Rattle.core_program.specs.Acts.{ActResult, Limited, OutOfSteps, Stops, Trouble, Went, spent}
use Rattle.core_program.specs.Run.{Halted, after_all, at_work, ends, frame_size, in_frame, opened, run_of, whole, with_frame, without_frame}
use Rattle.eval_ops.{proofs.CallsInFrames.in_frame_made, proofs.CallsInFrames.on_framing, specs.Frames.framing, specs.Machines.Moment}
use Rattle.program_run.specs.Tower.{CallBegins, Ends, Rests, activation}

-- a frame is made or not: no call is entered or left
record Framed (σ : State) (w : List Touch) (τ : State) : Type 0 where
  log : w ≡ []
  calls : τ.calls ≡ σ.calls
  depth : τ.depth ≡ σ.depth
  steps : τ.steps ≤ σ.steps
  output : τ.output ≡ σ.output
  items : τ.items ≡ σ.items

record Refused (σ : State) (w : List Touch) (τ : State) : Type 0 where
  log : w ≡ []
  top : τ.top ≡ σ.top
  calls : τ.calls ≡ σ.calls
  depth : τ.depth ≡ σ.depth
  steps : τ.steps ≤ σ.steps
  output : τ.output ≡ σ.output
  items : τ.items ≡ σ.items

made_is : (r : Routine) (args : List Value) (σ τ : State) (w : List Touch) (a b : Bool) → ◌≡◌ {A = ActResult (Unit {0})} (if a then Stops (Limited Stack) [] σ
    else if b then Stops OutOfSteps [] (spent σ) else Went tt [] (with_frame r args σ)) (Went tt w τ) → Framed σ w τ
made_is r args σ τ w true b e = absurd (let z : ⊥ = cc in z)
made_is r args σ τ w false true e = absurd (let z : ⊥ = cc in z)
made_is r args σ τ w false false e =
    let l : [] ≡ w = cc in
    let s : with_frame r args σ ≡ τ = cc in
    record {
      log = sym l;
      calls = ap (λ (υ : State). υ.calls) (sym s);
      depth = ap (λ (υ : State). υ.depth) (sym s);
      steps = subst (λ (υ : State). υ.steps ≤ σ.steps) s (omega arith);
      output = ap (λ (υ : State). υ.output) (sym s);
      items = ap (λ (υ : State). υ.items) (sym s);
    }

refused_is : (r : Routine) (args : List Value) (σ τ : State) (why : Trouble) (w : List Touch) (a b : Bool)
    → ◌≡◌ {A = ActResult (Unit {0})} (if a then Stops (Limited Stack) [] σ
    else if b then Stops OutOfSteps [] (spent σ) else Went tt [] (with_frame r args σ)) (Stops why w τ) → Refused σ w τ
refused_is r args σ τ why w true b e =
    let l : [] ≡ w = cc in
    let s : σ ≡ τ = cc in
    record {
      log = sym l;
      top = ap (λ (υ : State). υ.top) (sym s);
      calls = ap (λ (υ : State). υ.calls) (sym s);
      depth = ap (λ (υ : State). υ.depth) (sym s);
      steps = subst (λ (υ : State). υ.steps ≤ σ.steps) s (omega arith);
      output = ap (λ (υ : State). υ.output) (sym s);
      items = ap (λ (υ : State). υ.items) (sym s);
    }
refused_is r args σ τ why w false true e =
    let l : [] ≡ w = cc in
    let s : spent σ ≡ τ = cc in
    record {
      log = sym l;
      top = ap (λ (υ : State). υ.top) (sym s);
      calls = ap (λ (υ : State). υ.calls) (sym s);
      depth = ap (λ (υ : State). υ.depth) (sym s);
      steps = subst (λ (υ : State). υ.steps ≤ σ.steps) s (omega arith);
      output = ap (λ (υ : State). υ.output) (sym s);
      items = ap (λ (υ : State). υ.items) (sym s);
    }
refused_is r args σ τ why w false false e = absurd (let z : ⊥ = cc in z)

module _ (p : ProgramRows) (f : ℕ) (args : List Value) (r : Routine) (m m' : Moment) where
  begins_of_size : (w : List Touch) → routine_at p f ≡ Some r → framing r args (opened m.state) ≡ Went tt w m'.state → m'.log ≡ m.log ++ w
      → CallBegins p (activation f args (frame_size r args) (Rests (whole p f m.state.top r))) m m'
  begins_of_size w found e l =
      let h = made_is r args (opened m.state) m'.state w (nat_lt stack_end (m.state.top + frame_size r args)) (nat_lt m.state.steps (frame_size r args)) e in
      record {
        log = l ∙ ap (λ v. m.log ++ v) h.log ∙ append-nil m.log;
        calls = h.calls;
        depth = h.depth;
        steps = h.steps;
        output = h.output;
        items = h.items;
        is = λ n. ap (in_frame (at_work p (run_of p n) f) args (opened m.state)) found
            ∙ in_frame_made (at_work p (run_of p n) f) args (opened m.state) r
            ∙ ap (λ d. on_framing d (λ τ. after_all (without_frame m.state.top (frame_size r args)) (run_of p n (whole p f m.state.top r) τ))) e;
      }

  pub begins_made : (w : List Touch) (cells : ℕ) → cells ≡ frame_size r args → routine_at p f ≡ Some r → framing r args (opened m.state) ≡ Went tt w m'.state
      → m'.log ≡ m.log ++ w → CallBegins p (activation f args cells (Rests (whole p f m.state.top r))) m m'
  begins_made w cells size found e l =
      subst (λ n. CallBegins p (activation f args n (Rests (whole p f m.state.top r))) m m') (sym size) (begins_of_size w found e l)

  pub begins_refused : (why : Trouble) (w : List Touch) → routine_at p f ≡ Some r → framing r args (opened m.state) ≡ Stops why w m'.state
      → m'.log ≡ m.log ++ w
      → CallBegins p (activation f args 0 (Ends (Halted (way_of 0 why)))) m m'
  begins_refused why w found e l =
      let h = refused_is r args (opened m.state) m'.state why w (nat_lt stack_end (m.state.top + frame_size r args)) (nat_lt m.state.steps (frame_size r args))
      e in
      record {
        log = l ∙ ap (λ v. m.log ++ v) h.log ∙ append-nil m.log;
        calls = h.calls;
        depth = h.depth;
        steps = h.steps;
        output = h.output;
        items = h.items;
        is = λ n. ap (in_frame (at_work p (run_of p n) f) args (opened m.state)) found
            ∙ in_frame_made (at_work p (run_of p n) f) args (opened m.state) r
            ∙ ap (λ d. on_framing d (λ τ. after_all (without_frame m.state.top (frame_size r args)) (run_of p n (whole p f m.state.top r) τ))) e
            ∙ (λ i. ends (Halted (way_of 0 why)) (record m'.state { top = h.top i }));
      }
