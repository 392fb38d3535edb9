-- The own work of a call of a run, by the call's number, and the state before a call, by what is kept of the run.
use Rattle.std.specs.Prelude.{◌+◌, [], ℕ, List, None, Option, Some, drop, map, take}
use Rattle.std.specs.List.{slice_get}
use Rattle.core_program.specs.{Numbering.calls_of, ProgramRows.ProgramRows, State.State}
use Rattle.core_program.specs.Replay.{ChildOf, Event, LineOf, Replayed, body}
use Rattle.core_program.specs.Run.{Call, Outcome, depth_enough, run}
use Rattle.call_tree.specs.declared.events.Event as kept
use Rattle.call_tree.specs.declared.events.Event.TheVariants.{Child, Line}
use Rattle.call_tree.specs.declared.records.Call as table
use Rattle.program_run.specs.declared.history.History.{History}

-- the calls of a run, in order of entry
abbrev pub records_of : Outcome → List Call
records_of x = map (λ e. e.event) (calls_of x)

-- the own work of a call of this number, if there is one; the calls below it follow it
abbrev pub work_at : ProgramRows → (calls : List Call) → (number : ℕ) → Option Call → Replayed
work_at p calls number None = None
work_at p calls number (Some c) =
    body p (depth_enough p c.entry.steps) c number (take c.below (drop (number + 1) calls))

-- the own work of a call of a run, by its number
abbrev pub work_of : ProgramRows → Outcome → (number : ℕ) → Replayed
work_of p x number = work_at p (records_of x) number (slice_get (records_of x) number)

-- the same for the run with an input and the budget that is kept of it
abbrev pub work_in : ProgramRows → (input : List ℕ) → History → (number : ℕ) → Replayed
work_in p input h number = work_of p (run p input h.budget) number

-- an event as it is kept
abbrev pub kept_event : Event → kept.Event
kept_event (LineOf line) = Line line
kept_event (ChildOf number before) = Child number

-- the events of the work, as they are kept
abbrev pub events_in : Replayed → List kept.Event
events_in None = []
events_in (Some r) = map (λ e. kept_event e.event) r.events

-- the state before a call, by its row of the table and what is kept of the run
abbrev pub before_of : table.Call → History → State
before_of row h = record {
  cells = row.entry.store;
  top = row.entry.top;
  fresh = row.entry.fresh;
  items = h.input;
  place = row.entry.place;
  output = take row.entry.output h.output;
  steps = row.entry.steps;
  calls = row.entry.calls;
  depth = row.depth;
}
