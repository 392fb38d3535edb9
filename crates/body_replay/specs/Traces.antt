-- A call's own work in its frame, how it ends, and what is kept of it.
use Rattle.std.specs.Prelude.{◌+◌, ◌≡◌, ◌≤◌, ℕ, List, None, Option, Some, map}
use Rattle.std.specs.Option.{option_map}
use Rattle.cell_value.specs.declared.{entries.Touch.Touch, values.Value.Value, ways_out.WayOut.WayOut}
use Rattle.core_program.specs.{Acts.Stops, Acts.Trouble, Acts.Went, ProgramRows.ProgramRows, ProgramRows.routine_at}
use Rattle.core_program.specs.{State.State, State.most_calls, Tree.way_of, declared.program.Routine.Routine}
use Rattle.core_program.specs.Replay.{Event, Replayed, Replaying, in_replaying, on_state, replay_of}
use Rattle.core_program.specs.Run.{Result, at_work, call_closed, frame_size, framed_run, result_in, way_out}
use Rattle.call_tree.specs.declared.events.Event as kept
use Rattle.call_tree.specs.declared.records.Call as table
use Rattle.eval_ops.specs.{Frames.framing, Machines.machine_state, declared.machine.Machine.Machine}
use Rattle.program_run.specs.declared.history.History.{History}
use Rattle.program_run.specs.declared.runner.Begun.{Begun, TheVariants.Ended, TheVariants.Framed}
use Rattle.body_replay.specs.{Again.Job, Counting.Tally, Replays.events_in, Replays.kept_event}
use Rattle.body_replay.specs.declared.{framed.WorkEnd.WorkEnd, replayer.Replayer.Replayer}
use Rattle.body_replay.specs.declared.kept_state.KeptState.{KeptState}

-- a call was entered, and from this state its frame is to be made, and its routine to be at work in it
pub record FrameToMake (p : ProgramRows) (h : History) (j : Job h) (row : table.Call) (σ : State) : Type 0 where
  pub depth : ℕ
  pub is : framed_run in_replaying (at_work p (replay_of p depth) row.routine) row.args
      (record { state = σ; number = j.number + 1; calls = j.below }) (routine_at p row.routine) ≡ Some j.work
  pub few : σ.steps ≤ 4000000
  pub calls : σ.calls ≤ most_calls

-- a frame was made, or it was not, and the call ends so
abbrev pub FrameMade : Routine → List Value → (σ : State) → Begun → (τ : State) → Type 0
FrameMade r args σ (Framed cells) τ = (w : List Touch) × (framing r args σ ≡ Went tt w τ) × (cells ≡ frame_size r args)
FrameMade r args σ (Ended way) τ =
    (w : List Touch) × (why : Trouble) × (framing r args σ ≡ Stops why w τ) × (way_of 0 why ≡ way)

-- the work ended so
pub record EndsAs (work : Result Replaying Event) (e : WorkEnd) : Type 0 where
  pub way : way_out work.end ≡ e.way
  pub result : result_in work.end ≡ e.answer
  pub after : work.after.state ≡ machine_state e.machine
  pub events : map (λ e. kept_event e.event) work.events ≡ e.events

-- the end is that of a call's work, once the call is closed, and the call's row has the steps that are left
pub record IsEndOf (work : Replayed) (row : table.Call) (e : WorkEnd) : Type 0 where
  pub events : e.events ≡ events_in work
  pub way : option_map (λ w. way_out w.end) work ≡ Some e.way
  pub result : option_map (λ w. result_in w.end) work ≡ Some e.answer
  pub exit : option_map (λ w. w.after.state) work ≡ Some (call_closed row.depth (machine_state e.machine))
  pub steps : e.machine.steps ≡ row.exit.steps

-- a result with a changed state after it
abbrev pub changed_result : (State → State) → Result Replaying Event → Result Replaying Event
changed_result change r = record r { after = on_state change r.after }

-- the state that is kept whole
abbrev pub kept_state : KeptState → State
kept_state k = record {
  cells = k.store;
  top = k.top;
  fresh = k.fresh;
  items = k.input;
  place = k.place;
  output = k.output;
  steps = k.steps;
  calls = k.calls;
  depth = k.depth;
}

-- the tally of a machine before which this many steps were counted
abbrev pub tally : (counted : ℕ) → Machine → List kept.Event → Tally
tally counted m events = record { counted = counted; left = m.steps; events = events }

abbrev pub tally_of : (counted : ℕ) → Replayer → Tally
tally_of counted r = tally counted r.machine r.events
