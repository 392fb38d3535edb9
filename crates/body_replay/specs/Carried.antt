-- The record of a call of a run, put in place of its run from another state.
use Rattle.std.specs.Prelude.{◌+◌, ◌≡◌, ◌≤◌, ℕ, List, Some, drop, take}
use Rattle.std.specs.List.{slice_get}
use Rattle.core_program.specs.{ProgramRows.ProgramRows, State.State}
use Rattle.core_program.specs.Run.{Call, Outcome, Result, call_of, depth_enough, result_in, run, run_of, way_out}
use Rattle.program_run.specs.{History.IsOfRun, declared.history.History.History}
use Rattle.body_replay.specs.Replays.{records_of}

-- This holds of the call of this number of the run of a program that is kept, and of the calls below it, whatever the
-- bytes of the input were.
abbrev pub OfCall : ProgramRows → History → (number : ℕ) → (Call → List Call → Type 0) → Type 0
OfCall p h number P = (input : List ℕ) → IsOfRun p input h.budget h
    → (c : Call) → slice_get (records_of (run p input h.budget)) number ≡ Some c
    → P c (take c.below (drop (number + 1) (records_of (run p input h.budget))))

-- a call ends as a recorded call did, in this state
pub record EndsIn (c : Call) (τ : State) (call : Outcome) : Type 0 where
  pub run : Result State Call
  pub is : call ≡ Some run
  pub way : way_out run.end ≡ c.way
  pub result : result_in run.end ≡ c.result
  pub after : run.after ≡ τ

-- the routine of a recorded call with its args, run from a state at each depth that is enough, ends as the call did, in
-- this state
abbrev pub RunsTo : ProgramRows → Call → (σ τ : State) → Type 0
RunsTo p c σ τ = (depth : ℕ) → depth_enough p σ.steps ≤ depth
    → EndsIn c τ (call_of p (run_of p depth) c.routine c.args σ)
