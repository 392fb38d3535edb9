-- What a call may rely on: the limits that were asked, and what making its frame did.
use Rattle.std.proofs.Common.{if◌then◌else◌, ◌+◌, ◌≡◌, [], ℕ, Bool, List, None, Some, arith, false, nat_lt, refl, true}
use Rattle.std.proofs.lemmas.Bool.Decides.{nat_tests}
use Rattle.cell_value.specs.declared.{values.Value.Value, ways_out.Which.TheVariants.Stack}
use Rattle.core_program.specs.{State.State, State.stack_end, Tree.way_of, declared.program.Routine.Routine}
use Rattle.core_program.specs.Acts.{ActResult, Limited, OutOfSteps, Stops, Went, limit_passed, spent}
use Rattle.core_program.specs.Run.{Halted, Outcome, after_all, ends, frame_size, in_frame, with_frame, without_frame}
use Rattle.eval_ops.specs.{Frames.framing, Machines.AllowsCall, Machines.machine_state, declared.machine.Machine.Machine}

-- goes on in a frame that was made
abbrev pub on_framing : ActResult (Unit {0}) → (State → Outcome) → Outcome
on_framing (Went x w τ) go = go τ
on_framing (Stops why w τ) go = ends (Halted (way_of 0 why)) τ

by_tests : (go : State → Outcome) (σ τ : State) (a b : Bool) → (if a then ends (Halted (way_of 0 (Limited Stack))) σ
    else if b then ends (Halted (way_of 0 OutOfSteps)) (spent σ)
    else go τ) ≡ on_framing (if a then Stops (Limited Stack) [] σ else if b then Stops OutOfSteps [] (spent σ) else Went tt [] τ) go
by_tests go σ τ true b = refl
by_tests go σ τ false true = refl
by_tests go σ τ false false = refl

pub in_frame_made : (work : Routine → ℕ → State → Outcome) (args : List Value) (σ : State) (r : Routine)
    → in_frame work args σ (Some r) ≡ on_framing (framing r args σ) (λ τ. after_all (without_frame σ.top (frame_size r args)) (work r σ.top τ))
in_frame_made work args σ r = by_tests (λ τ. after_all (without_frame σ.top (frame_size r args)) (work r σ.top τ)) σ (with_frame r args σ)
    (nat_lt stack_end (σ.top + frame_size r args)) (nat_lt σ.steps (frame_size r args))

-- where no limit is passed, there is room for a call
pub room_for_call : (m : Machine) (cells : ℕ) → limit_passed (machine_state m) cells ≡ None → AllowsCall m
room_for_call m cells h = record {
  calls = grind (arith, nat_tests, h);
  depth = grind (arith, nat_tests, h);
}
