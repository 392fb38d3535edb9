-- What cards and traces leave out: the lines on links, and no others. And which cells have names.
use Rattle.std.specs.Prelude.{◌++◌, ◌<◌, ◌∷◌, ◌≡◌, ◌≤◌, [], ℕ, All, IsSome, List, Some, false, length, slice_get, true}
use Rattle.std.specs.List.{list_any}
use Rattle.cell_value.specs.{Effects.changes_of, Effects.heap_start, Effects.reads_of, declared.values.Value.Value}
use Rattle.cell_value.specs.declared.entries.{Seen.Seen, Seen.TheVariants.Absent, Touch.Touch}
use Rattle.pas_lexer.specs.Lexed.{Lexed}
use Rattle.core_program.specs.{Replay.Replaying, WholeTables.WholeTables, declared.program.Routine.Routine}
use Rattle.core_program.specs.ProgramRows.{ProgramRows, frame_of, routine_at}
use Rattle.core_program.specs.Replay as replay
use Rattle.core_program.specs.Run.{Result, frame_size, run}
use Rattle.run_laws.specs.{HeapLaws.is_disposed, HeapLaws.makes_variable, LaidOut.LaidOut}
use Rattle.call_tree.specs.{Told.part_of, declared.records.Call.Call}
use Rattle.call_tree.specs.declared.events.Event.{Event, TheVariants.Child, TheVariants.Line}
use Rattle.body_replay.specs.Replays.{kept_event, work_of}
use Rattle.cell_names.specs.Names.{Scene, frame, is_link, local_at, root_at}
use Rattle.question_text.specs.{Cards.Recorded, Cards.result_text, Cards.result_type, Cards.scene_of, Cells.change_line}
use Rattle.question_text.specs.{Cells.parameter_line, Cells.seen_line, Lines.inner_line, Traces.event_line}
use Rattle.debuggee.specs.Execution.{Supply, execution_of}

-- a line of a card after its first, or of a trace
pub record IsLine (text : List ℕ) : Type 0 where
  pub inner : List ℕ
  pub is : text ≡ inner_line inner

-- ---- cards

-- what is shown of the cell at an address is a line; or nothing, of a link
pub data ShownAs (s : Scene) (address : ℕ) (text : List ℕ) : Type 0 where
  Shown : IsLine text → ShownAs s address text
  LinkLeftOut : is_link s address ≡ true → text ≡ [] → ShownAs s address text

-- The routine of a call is there, each cell of its parameters has its line, so has each cell of its reads and changes
-- but for links, and so has the result that it gave.
pub record LeavesOutLinks (r : Recorded) (number : ℕ) (call : Call) : Type 0 where
  pub routine : IsSome (routine_at r.program call.routine)
  pub parameters : (place : ℕ) (v : Value)
      → IsLine (parameter_line (scene_of r number) (frame number call.routine call.entry.top) place v)
  pub reads : All
      (λ x. ShownAs (scene_of r number) x.0 (seen_line (scene_of r number) x))
      (reads_of call.entry.top (part_of r.log call))
  pub changes : All
      (λ x. ShownAs (scene_of r number) x.0 (change_line (scene_of r number) x))
      (changes_of call.entry.top (part_of r.log call))
  pub result : (v : Value) → call.result ≡ Some v → IsLine (result_text r.program call.routine call.result)

abbrev pub CardsLeaveOutLinks : Type 0
CardsLeaveOutLinks = (p : ProgramRows) (t : Lexed) (s : Supply) (number : ℕ) (call : Call)
    → slice_get (execution_of t p s).recorded.calls number ≡ Some call
    → LeavesOutLinks (execution_of t p s).recorded number call

-- ---- traces

-- a call that a body made is one of the run, and its routine is there
pub record MadeCall (r : Recorded) (number : ℕ) : Type 0 where
  pub call : Call
  pub is : slice_get r.calls number ≡ Some call
  pub routine : IsSome (routine_at r.program call.routine)

-- the call that the line of an event names, if it names one
abbrev pub NamesCall : Recorded → Event → Type 0
NamesCall r (Line line) = Unit {0}
NamesCall r (Child number) = MadeCall r number

-- each event of the own work of a call of a run has its line; and where that names a call, it is there
abbrev pub TracesLeaveOutNothing : Type 0
TracesLeaveOutNothing = (p : ProgramRows) → WholeTables p → (t : Lexed) (s : Supply) (number : ℕ)
    (work : Result Replaying replay.Event) → number < length (execution_of t p s).recorded.calls
    → work_of p (run p s.input s.budget) number ≡ Some work
    → All
    (λ e. IsLine (event_line (execution_of t p s).recorded (kept_event e.event))
    × NamesCall (execution_of t p s).recorded (kept_event e.event))
    work.events

-- ---- names

-- the cell at an address has a name, or it is a link
pub data NamedAs (s : Scene) (address : ℕ) : Type 0 where
  Named : IsSome (root_at s address) → NamedAs s address
  Link : is_link s address ≡ true → NamedAs s address

-- An address of the heap was asked for in a run that never made a variable there. That was the last thing that a call
-- touched, which ended with the fault `Disposed`.
pub record IsLastMiss (log : List Touch) (call : Call) (address : ℕ) (seen : Seen) : Type 0 where
  pub absent : seen ≡ Absent
  pub in_heap : heap_start ≤ address
  pub none_made : list_any makes_variable log ≡ false
  pub before : List Touch
  pub last : part_of log call ≡ before ++ Touch.Has address false ∷ []
  pub way : is_disposed call.way ≡ true

-- what is shown of a cell that a call read or asked for: of one that has a name, or of that last one
pub data SeenAs (r : Recorded) (number : ℕ) (call : Call) (x : ℕ × Seen) : Type 0 where
  OfNamed : NamedAs (scene_of r number) x.0 → SeenAs r number call x
  OfLastMiss : IsLastMiss r.log call x.0 x.1 → SeenAs r number call x

-- So it is with each cell of a call's reads, and each cell that it changed has a name, but for links. So has each place
-- of its frame behind the link: of a parameter, of its result or of a variable, and behind all these of a copy. And of
-- its result the type is known.
pub record IsNamed (r : Recorded) (number : ℕ) (call : Call) : Type 0 where
  pub parameters : (place : ℕ) → 0 < place → place < frame_of r.program call.routine
      → IsSome (local_at (scene_of r number) (frame number call.routine call.entry.top) place)
  pub copies : (q : Routine) → routine_at r.program call.routine ≡ Some q
      → (place : ℕ) → 0 < place → q.cells ≤ place → place < frame_size q call.args
      → IsSome (local_at (scene_of r number) (frame number call.routine call.entry.top) place)
  pub reads : All (SeenAs r number call) (reads_of call.entry.top (part_of r.log call))
  pub changes : All
      (λ x. NamedAs (scene_of r number) x.0)
      (changes_of call.entry.top (part_of r.log call))
  pub result : (v : Value) → call.result ≡ Some v → IsSome (result_type r.program (routine_at r.program call.routine))

-- so it is where the tables of the program are laid out
abbrev pub CellsAreNamed : Type 0
CellsAreNamed = (p : ProgramRows) → WholeTables p → LaidOut p → (t : Lexed) (s : Supply) (number : ℕ) (call : Call)
    → slice_get (execution_of t p s).recorded.calls number ≡ Some call
    → IsNamed (execution_of t p s).recorded number call
