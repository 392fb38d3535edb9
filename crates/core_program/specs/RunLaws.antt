-- What holds of the states of every run, and of the records of its calls.
use Rattle.std.specs.Prelude.{◌+◌, ◌<◌, ◌^◌, ◌≡◌, ◌≤◌, [], ℕ, List, Some, drop, length, map, slice_range, take}
use Rattle.std.specs.List.{All, slice_get}
use Rattle.cell_value.specs.Effects.{IsCountable, changes_of, given_of, looked_of, made_of, reads_of, taken_of}
use Rattle.cell_value.specs.declared.{entries.Touch.Touch, values.Value.Value}
use Rattle.core_program.specs.{Agree.Agrees, Apply.apply, Layer.layer, ProgramRows.ProgramRows, Run.run_of, Run.start}
use Rattle.core_program.specs.{Run.way_out, Tree.Part, WholeTables.WholeTables}
use Rattle.core_program.specs.Acts.{Act, ActResult, Stops, Went, perform}
use Rattle.core_program.specs.Replay.{ChildOf, Event, LineOf, Replayed, Replaying, body}
use Rattle.core_program.specs.Run.{Call, Marked, Outcome, Result, call_of, depth_enough, input_items, result_in, run}
use Rattle.core_program.specs.State.{IsSound, State, most_calls, most_depth}

-- the calls of a run, in order of entry
abbrev pub calls_in : Result State Call → List Call
calls_in r = map (λ e. e.event) r.events

-- this holds of each call of each run, with its number and the calls below it
abbrev pub OfEachCall : (ProgramRows → ℕ → Call → List Call → Type 0) → Type 0
OfEachCall P = (p : ProgramRows) (input : List ℕ) (budget : ℕ) (r : Result State Call) → run p input budget ≡ Some r
    → (number : ℕ) (c : Call) → slice_get (calls_in r) number ≡ Some c
    → P p number c (take c.below (drop (number + 1) (calls_in r)))

-- ---- sound states

-- the first state of each run is sound
abbrev pub RunsBeginSound : Type 0
RunsBeginSound = (input : List ℕ) (budget : ℕ) → IsSound (start input budget)

abbrev pub IsSoundAfter : {A : Type 0} → ActResult A → Type 0
IsSoundAfter (Went answer log after) = IsSound after
IsSoundAfter (Stops why log after) = IsSound after

-- each act keeps a sound state sound, whether it is done or not
abbrev pub ActsKeepSound : Type 0
ActsKeepSound = (act : Act) (σ : State) → IsSound σ → IsSoundAfter (perform act σ)

-- so does each part of a program, however deep parts and calls stand in one another
abbrev pub PartsKeepSound : Type 0
PartsKeepSound = (p : ProgramRows) (depth : ℕ) (part : Part) (σ : State) (r : Result State Call) → IsSound σ
    → run_of p depth (layer p part) σ ≡ Some r → IsSound r.after

-- and each call that passes no limit
abbrev pub CallsKeepSound : Type 0
CallsKeepSound = (p : ProgramRows) (depth routine : ℕ) (args : List Value) (σ : State) (r : Result State Call)
    → IsSound σ → σ.calls < most_calls → σ.depth ≤ most_depth → call_of p (run_of p depth) routine args σ ≡ Some r
    → IsSound r.after

-- each call of a run begins in a sound state and ends in one
abbrev pub RunsKeepSound : Type 0
RunsKeepSound = OfEachCall (λ p number c below. IsSound c.entry × IsSound c.exit)

-- the items of the input are these before a call and after it
pub record MeetsItems (items : List ℕ) (c : Call) : Type 0 where
  pub before : c.entry.items ≡ items
  pub after : c.exit.items ≡ items

-- each call of a run meets the items of the run's input
abbrev pub RunsKeepItems : Type 0
RunsKeepItems = (p : ProgramRows) (input : List ℕ) (budget : ℕ) (r : Result State Call) → run p input budget ≡ Some r
    → All (MeetsItems (input_items input)) (calls_in r)

-- ---- touches whose effect can be counted

-- each item of the input, and the end after them, has a number below the greatest one of 32 bits
abbrev pub HasFewItems : State → Type 0
HasFewItems σ = length σ.items < 4294967295

abbrev pub ShowsCountable : {A : Type 0} → ActResult A → Type 0
ShowsCountable (Went answer log after) = All IsCountable log
ShowsCountable (Stops why log after) = All IsCountable log

-- what each act shows from a sound state can be counted, whether it is done or not
abbrev pub ActsAreCountable : Type 0
ActsAreCountable = (act : Act) (σ : State) → IsSound σ → HasFewItems σ → ShowsCountable (perform act σ)

-- so can what each part of a program shows, however deep parts and calls stand in one another
abbrev pub PartsAreCountable : Type 0
PartsAreCountable = (p : ProgramRows) (depth : ℕ) (part : Part) (σ : State) (r : Result State Call) → IsSound σ
    → HasFewItems σ → run_of p depth (layer p part) σ ≡ Some r → All IsCountable r.log

-- and what each call shows that passes no limit
abbrev pub CallsAreCountable : Type 0
CallsAreCountable = (p : ProgramRows) (depth routine : ℕ) (args : List Value) (σ : State) (r : Result State Call)
    → IsSound σ → HasFewItems σ → σ.calls < most_calls → σ.depth ≤ most_depth
    → call_of p (run_of p depth) routine args σ ≡ Some r → All IsCountable r.log

-- and what each call of a run shows
abbrev pub RunsAreCountable : Type 0
RunsAreCountable = OfEachCall (λ p number c below. HasFewItems c.entry → All IsCountable c.log)

-- the greatest length of an input, in bytes
abbrev pub most_bytes : ℕ
most_bytes = 4194304

-- In a run with these items of the input and this log, the log has from the call's mark on what the call did, the
-- effect of which can be counted, and the input has the items that the call took.
pub record IsCounted (items : List ℕ) (log : List Touch) (c : Marked Call) : Type 0 where
  pub in_log : c.mark + length c.event.log ≤ length log
  pub part : slice_range log c.mark (c.mark + length c.event.log) ≡ c.event.log
  pub countable : All IsCountable c.event.log
  pub made_fits : made_of c.event.log < 2 ^ 32
  pub taken_fits : taken_of c.event.log < 2 ^ 32
  pub in_input : c.event.entry.place + taken_of c.event.log ≤ length items

-- each call of a run is counted so
abbrev pub CallsAreCounted : Type 0
CallsAreCounted = (p : ProgramRows) (input : List ℕ) (budget : ℕ) (r : Result State Call) → length input ≤ most_bytes
    → run p input budget ≡ Some r → All (IsCounted (input_items input) r.log) r.events

-- ---- a call's own work

-- A call that is met is the one of its number, and it is met in its recorded entry state. `first` is the number of the
-- first of these calls.
abbrev pub IsMet : (first : ℕ) → List Call → Event → Type 0
IsMet first calls (LineOf line) = Unit {0}
IsMet first calls (ChildOf number before) =
    (i : ℕ) × (c : Call) × (number ≡ first + i) × (slice_get calls i ≡ Some c) × (c.entry ≡ before)

-- this is the call's own work: it comes to the recorded end and state, and has met all calls that the call made
pub record IsBody (number : ℕ) (c : Call) (below : List Call) (work : Replayed) : Type 0 where
  pub run : Result Replaying Event
  pub is : work ≡ Some run
  pub way : way_out run.end ≡ c.way
  pub result : result_in run.end ≡ c.result
  pub exit : run.after.state ≡ c.exit
  pub met : All (λ e. IsMet (number + 1) below e.event) run.events
  pub used : run.after.calls ≡ []

-- the own work of each call of each run of whole tables, from the effects of the calls that it made, at each depth that
-- is enough
abbrev pub BodiesRepeat : Type 0
BodiesRepeat = OfEachCall (λ p number c below. WholeTables p → (depth : ℕ) → depth_enough p c.entry.steps ≤ depth
    → IsBody number c below (body p depth c number below))

-- ---- records in place of runs

-- a call from a state has the recorded end and effect, and leaves what the effect makes of the state
pub record StandsFor (c : Call) (σ : State) (call : Outcome) : Type 0 where
  pub run : Result State Call
  pub is : call ≡ Some run
  pub way : way_out run.end ≡ c.way
  pub result : result_in run.end ≡ c.result
  pub after : run.after ≡ apply c σ
  pub reads : reads_of σ.top run.log ≡ reads_of c.base c.log
  pub changes : changes_of σ.top run.log ≡ changes_of c.base c.log
  pub made : made_of run.log ≡ made_of c.log
  pub looked : looked_of σ.place run.log ≡ looked_of c.entry.place c.log
  pub taken : taken_of run.log ≡ taken_of c.log
  pub given : given_of run.log ≡ given_of c.log

-- the record of each call of each run of whole tables stands for the call from each sound state that agrees with it, at
-- each depth that is enough
abbrev pub RecordsStand : Type 0
RecordsStand = OfEachCall (λ p number c below. WholeTables p → (σ : State) → IsSound σ → Agrees c below σ
    → (depth : ℕ) → depth_enough p σ.steps ≤ depth
    → StandsFor c σ (call_of p (run_of p depth) c.routine c.args σ))
