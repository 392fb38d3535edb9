-- The call of a routine from a state, also one that no run reaches.
use Rattle.std.specs.Prelude.{◌+◌, ◌<◌, ◌≤◌, [], ℕ, IsSome, List}
use Rattle.cell_value.specs.declared.values.Value.{Value}
use Rattle.core_program.specs.ProgramRows.{ProgramRows, frame_of, routine_at}
use Rattle.core_program.specs.Run.{Outcome, call_of, depth_enough, run_of}
use Rattle.core_program.specs.State.{IsSound, State, most_calls, most_depth, stack_end}
use Rattle.call_tree.specs.declared.records.Side.{Side}

-- the state beside a call, at which nothing was given yet, where so many calls are open
abbrev pub state_from : Side → (depth : ℕ) → (items : List ℕ) → State
state_from side depth items = record {
  cells = side.store;
  top = side.top;
  fresh = side.fresh;
  items = items;
  place = side.place;
  output = [];
  steps = side.steps;
  calls = side.calls;
  depth = depth;
}

-- The call, with those below it. From each state there is one, if the routine is there.
abbrev pub call_from : ProgramRows → (routine : ℕ) → List Value → State → Outcome
call_from p routine args σ = call_of p (run_of p (depth_enough p σ.steps)) routine args σ

-- a routine may be called from a state: it is there, and no limit is passed by its frame without copies, or by one
-- call more
pub record CanBeCalled (p : ProgramRows) (routine : ℕ) (σ : State) : Type 0 where
  pub there : IsSome (routine_at p routine)
  pub sound : IsSound σ
  pub frame : σ.top + frame_of p routine ≤ stack_end
  pub calls : σ.calls < most_calls
  pub depth : σ.depth ≤ most_depth
