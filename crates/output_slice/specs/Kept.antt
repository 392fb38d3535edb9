-- A call's own work stays the same where only what is not used of the calls that it makes is changed.
use Rattle.std.specs.Prelude.{◌+◌, ◌≡◌, ◌≤◌, [], ℕ, List, None, Option, Some, drop, map, take}
use Rattle.std.specs.{FinMap.get, List.All, List.slice_get}
use Rattle.cell_value.specs.Effects.{given_of, made_of, taken_of}
use Rattle.cell_value.specs.declared.entries.Change.{Change, TheVariants.Gone, TheVariants.Set}
use Rattle.core_program.specs.{Apply.steps_taken, Numbering.each_from, ProgramRows.ProgramRows, State.State}
use Rattle.core_program.specs.Replay.{ChildOf, Event, LineOf, Replayed, Replaying, body}
use Rattle.core_program.specs.Run.{Call, Marked, depth_enough, result_in, run, way_out}
use Rattle.core_program.specs.Run as meaning
use Rattle.core_program.specs.WholeTables.{WholeTables}
use Rattle.output_slice.specs.Outputs.{Met, TheCell, Used, changed_by}
use Rattle.output_slice.specs.Pieces.{OfChild, Piece, Stands, pieces_of}
use Rattle.output_slice.specs.declared.outputs.Output.{Output, TheVariants.Cell, TheVariants.Gives}

-- two changes that differ in nothing but the value that is set
abbrev pub LikeChange : Option Change → Option Change → Type 0
LikeChange None None = Unit {0}
LikeChange (Some (Set v)) (Some (Set w)) = Unit {0}
LikeChange (Some Gone) (Some Gone) = Unit {0}
LikeChange c d = ⊥

-- The record of a call, and the same with other values in the cells that it sets and other bytes given: those that are
-- used stay; and where the output is the bytes, a call that gave none gives none.
pub record IsAltered (ps : List Piece) (o : Output) (number : ℕ) (c d : Call) : Type 0 where
  pub routine : d.routine ≡ c.routine
  pub args : d.args ≡ c.args
  pub base : d.base ≡ c.base
  pub way : d.way ≡ c.way
  pub result : d.result ≡ c.result
  pub below : d.below ≡ c.below
  pub steps : steps_taken d ≡ steps_taken c
  pub made : made_of d.log ≡ made_of c.log
  pub taken : taken_of d.log ≡ taken_of c.log
  pub cells : (addr : ℕ) → LikeChange (changed_by c addr) (changed_by d addr)
  pub used_cells : (addr : ℕ) → Used ps o number (Cell addr) → changed_by d addr ≡ changed_by c addr
  pub used_bytes : Used ps o number Gives → given_of d.log ≡ given_of c.log
  pub no_bytes : o ≡ Gives → given_of c.log ≡ [] → given_of d.log ≡ []

-- the records of the calls that a call makes are altered so, each by its number
abbrev pub Alters : List Piece → Output → (ℕ → Call → Call) → Type 0
Alters ps o alter = (before : List Piece) (number : ℕ) (c : Call) → Stands ps (OfChild number c) before
    → IsAltered ps o number c (alter number c)

-- an event, but for the state before a call: a line, or the number of a call
pub data Told : Type 0 where
  ALine : (line : ℕ) → Told
  ACall : (number : ℕ) → Told

abbrev pub told : Event → Told
told (LineOf line) = ALine line
told (ChildOf number before) = ACall number

abbrev pub told_of : Replayed → List Told
told_of None = []
told_of (Some r) = map (λ e. told e.event) r.events

-- The work done again is the recorded one, as far as the output goes: it ends as it did, with the same events.
pub record IsKept (o : Output) (c : Call) (work again : Replayed) : Type 0 where
  pub run : meaning.Result Replaying Event
  pub is : again ≡ Some run
  pub way : way_out run.end ≡ c.way
  pub result : result_in run.end ≡ c.result
  pub events : told_of again ≡ told_of work
  pub cell : (addr : ℕ) → o ≡ Cell addr → get run.after.state.cells addr ≡ get c.exit.cells addr
  pub bytes : o ≡ Gives → run.after.state.output ≡ c.exit.output

-- the calls below a call of a run
abbrev pub below_in : meaning.Result State Call → (number : ℕ) → Call → List Call
below_in r number c = take c.below (drop (number + 1) (map (λ e. e.event) r.events))

-- this holds of the work of each call of each run of whole tables and of the same with altered records
abbrev pub OfAltered : (meaning.Result State Call → List Piece → Output → Call → Replayed → Replayed → Type 0) → Type 0
OfAltered P = (p : ProgramRows) → WholeTables p → (input : List ℕ) (budget : ℕ) (r : meaning.Result State Call)
    → run p input budget ≡ Some r
    → (number : ℕ) (e : Marked Call) → slice_get r.events number ≡ Some e
    → (o : Output) (alter : ℕ → Call → Call) → Alters (pieces_of r number e) o alter
    → (depth : ℕ) → depth_enough p e.event.entry.steps ≤ depth
    → P r (pieces_of r number e) o e.event (body p depth e.event number (below_in r number e.event))
    (body p depth e.event number (each_from alter (number + 1) (below_in r number e.event)))

-- the work of each call stays the same, as far as the output goes
abbrev pub Kept : Type 0
Kept = OfAltered (λ r ps o c work again. IsKept o c work again)

-- a call of which an output is used is met where each cell that it read or asked for is as it was at its entry
abbrev pub IsMetAlike : meaning.Result State Call → List Piece → Output → Event → Type 0
IsMetAlike r ps o (LineOf line) = Unit {0}
IsMetAlike r ps o (ChildOf number before) = (e : Marked Call) → slice_get r.events number ≡ Some e → (part : Output)
    → Used ps o number part → (addr : ℕ) → Met e.event (TheCell addr)
    → get before.cells addr ≡ get e.event.entry.cells addr

abbrev pub events_of : Replayed → List (Marked Event)
events_of None = []
events_of (Some r) = r.events

-- so each call of which something is used is met
abbrev pub MetAlike : Type 0
MetAlike = OfAltered (λ r ps o c work again. All (λ e. IsMetAlike r ps o e.event) (events_of again))
