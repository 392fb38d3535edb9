-- What making a frame does, and what is then left of a call's own work.
use Rattle.std.proofs.Common.{if◌then◌else◌, ◌+◌, ◌∙◌, ◌≡◌, ◌≤◌, [], ℕ, Bool, List, None, Option, Some, ap, arith, false, nat_lt, refl, subst, sym, true}
use Rattle.std.proofs.lemmas.Bool.Decides.{nat_tests}
use Rattle.cell_value.specs.declared.{entries.Touch.Touch, values.Value.Value, ways_out.WayOut.WayOut, ways_out.Which.TheVariants.Stack}
use Rattle.core_program.specs.{ProgramRows.ProgramRows, ProgramRows.routine_at, State.State, State.stack_end, Tree.way_of, declared.program.Routine.Routine}
use Rattle.core_program.specs.Acts.{ActResult, Limited, OutOfSteps, Stops, Trouble, Went, spent}
use Rattle.core_program.specs.Replay.{Replayed, Replaying, in_replaying, on_state, replay_of}
use Rattle.core_program.specs.Run.{Halted, after_all, at_work, ends, frame_size, framed_run, whole, with_frame, without_frame}
use Rattle.eval_ops.specs.Frames.{framing}
use Rattle.program_run.specs.declared.runner.Begun.{Begun, TheVariants.Ended, TheVariants.Framed}
use Rattle.body_replay.specs.Traces.{FrameMade}

-- goes on in a frame that was made
abbrev pub on_framing : ActResult (Unit {0}) → (State → Replaying) → (State → Replayed) → Replayed
on_framing (Went x w τ) hold go = go τ
on_framing (Stops why w τ) hold go = ends (Halted (way_of 0 why)) (hold τ)

by_tests : (hold : State → Replaying) (go : State → Replayed) (σ τ : State) (a b : Bool)
    → (if a then ends (Halted (way_of 0 (Limited Stack))) (hold σ) else if b then ends (Halted (way_of 0 OutOfSteps)) (hold (spent σ)) else go τ)
    ≡ on_framing (if a then Stops (Limited Stack) [] σ else if b then Stops OutOfSteps [] (spent σ) else Went tt [] τ) hold go
by_tests hold go σ τ true b = refl
by_tests hold go σ τ false true = refl
by_tests hold go σ τ false false = refl

-- a routine at work in a frame of its own at a state
abbrev pub work_from : ProgramRows → (depth f : ℕ) → Routine → List Value → Replaying → State → Replayed
work_from p depth f r args s τ =
    after_all (on_state (without_frame s.state.top (frame_size r args))) (replay_of p depth (whole p f s.state.top r) (record s { state = τ }))

-- a routine in a new frame, by what making the frame did
pub framed_again : (p : ProgramRows) (depth f : ℕ) (args : List Value) (r : Routine) (s : Replaying) → routine_at p f ≡ Some r
    → framed_run in_replaying (at_work p (replay_of p depth) f) args s (routine_at p f)
    ≡ on_framing (framing r args s.state) (λ τ. record s { state = τ }) (work_from p depth f r args s)
framed_again p depth f args r s e = ap (framed_run in_replaying (at_work p (replay_of p depth) f) args s) e
    ∙ by_tests (λ τ. record s { state = τ }) (work_from p depth f r args s) s.state (with_frame r args s.state)
    (nat_lt stack_end (s.state.top + frame_size r args)) (nat_lt s.state.steps (frame_size r args))

-- what is left of the steps
abbrev Fell : ActResult (Unit {0}) → ℕ → Type 0
Fell (Went x w τ) most = τ.steps ≤ most
Fell (Stops why w τ) most = τ.steps ≤ most

fell_by : (r : Routine) (args : List Value) (σ : State) (a b : Bool)
    → Fell (if a then Stops (Limited Stack) [] σ else if b then Stops OutOfSteps [] (spent σ) else Went tt [] (with_frame r args σ)) σ.steps
fell_by r args σ true b = omega arith
fell_by r args σ false true = omega arith
fell_by r args σ false false = omega arith

framing_fell : (r : Routine) (args : List Value) (σ : State) → Fell (framing r args σ) σ.steps
framing_fell r args σ = fell_by r args σ (nat_lt stack_end (σ.top + frame_size r args)) (nat_lt σ.steps (frame_size r args))

pub went_fell : (r : Routine) (args : List Value) (σ τ : State) (w : List Touch) → framing r args σ ≡ Went tt w τ → τ.steps ≤ σ.steps
went_fell r args σ τ w e = subst (λ d. Fell d σ.steps) e (framing_fell r args σ)

stops_fell : (r : Routine) (args : List Value) (σ τ : State) (why : Trouble) (w : List Touch) → framing r args σ ≡ Stops why w τ → τ.steps ≤ σ.steps
stops_fell r args σ τ why w e = subst (λ d. Fell d σ.steps) e (framing_fell r args σ)

-- a frame that was made fits into the stack, and no call is entered by it
pub record Fits (n : ℕ) (σ τ : State) : Type 0 where
  pub top : σ.top + n ≤ stack_end
  pub calls : τ.calls ≡ σ.calls

fits_by : (r : Routine) (args : List Value) (σ τ : State) (w : List Touch) (a b : Bool) → nat_lt stack_end (σ.top + frame_size r args) ≡ a
    → ◌≡◌ {A = ActResult (Unit {0})} (if a then Stops (Limited Stack) [] σ
    else if b then Stops OutOfSteps [] (spent σ) else Went tt [] (with_frame r args σ)) (Went tt w τ) → Fits (frame_size r args) σ τ
fits_by r args σ τ w true b t e = absurd (let z : ⊥ = cc in z)
fits_by r args σ τ w false true t e = absurd (let z : ⊥ = cc in z)
fits_by r args σ τ w false false t e =
    let s : with_frame r args σ ≡ τ = cc in
    record { top = grind (arith, nat_tests, t); calls = ap (λ (υ : State). υ.calls) (sym s) }

pub fits : (r : Routine) (args : List Value) (σ τ : State) (w : List Touch) → framing r args σ ≡ Went tt w τ → Fits (frame_size r args) σ τ
fits r args σ τ w e = fits_by r args σ τ w (nat_lt stack_end (σ.top + frame_size r args)) (nat_lt σ.steps (frame_size r args)) refl e

pub made_fell : (r : Routine) (args : List Value) (σ τ : State) (b : Begun) → FrameMade r args σ b τ → τ.steps ≤ σ.steps
made_fell r args σ τ (Framed cells) m = went_fell r args σ τ m.0 m.1
made_fell r args σ τ (Ended way) m = stops_fell r args σ τ m.1 m.0 m.2
