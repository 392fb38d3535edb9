-- Open calls over one another, and the run that they are part of.
use Rattle.std.specs.Prelude.{◌++◌, ◌+◌, ◌∷◌, ◌≡◌, ◌≤◌, [], ℕ, List, None, Option, Some, length, slice_get, suc}
use Rattle.cell_value.specs.declared.{entries.Touch.Touch, values.Value.Value}
use Rattle.core_program.specs.{State.State, Tree.ActTree, Tree.Out, Tree.Ret}
use Rattle.core_program.specs.Numbering.{Inside, belows, depth_of, each_from, last_below, parent_of}
use Rattle.core_program.specs.ProgramRows.{ProgramRows, routine_at}
use Rattle.core_program.specs.Run.{Call, End, Ended, Halted, Marked, Outcome, Result, after_all, at_work, call_closed}
use Rattle.core_program.specs.Run.{call_of, ends, in_frame, in_front, joined, opened, recorded, run_of, without_frame}
use Rattle.call_tree.specs.Recording.{Recording, new_call}
use Rattle.call_tree.specs.declared.records.Call as table
use Rattle.eval_ops.specs.Machines.{Moment}
use Rattle.evaluator.specs.Stops.{AtCall, AtEnd, AtLine, Stop}
use Rattle.program_run.specs.{History.recording_of, Table.row_with, Table.side_of}

-- what a body has done so far: its part of the log, and the calls below it, whose marks are counted from there on
pub record Own : Type 0 where
  pub log : List Touch
  pub events : List (Marked Call)

-- an open call: what was called from which state, the cells of its frame, and what is done after it
pub record OpenLevel : Type 0 where
  pub routine : ℕ
  pub args : List Value
  pub entry : State
  pub cells : ℕ
  pub rest : Out → ActTree

-- the open calls: none, or one over the others
pub data OpenLevels : Type 0 where
  Bottom : (own : Own) → OpenLevels
  Push : (under : OpenLevels) (call : OpenLevel) (own : Own) → OpenLevels

-- ---- the run

-- a call, from what its body gave
abbrev pub called : OpenLevel → Outcome → Outcome
called l x = recorded l.routine l.args l.entry (after_all (call_closed l.entry.depth)
    (after_all (without_frame l.entry.top l.cells) x))

-- a call, and what is done after it
abbrev pub followed : ProgramRows → ℕ → (Out → ActTree) → Outcome → Outcome
followed p n rest x = joined x (λ out τ. run_of p n (rest out) τ)

-- the whole run, from what is left of the innermost body
abbrev pub whole_from : ProgramRows → ℕ → OpenLevels → Outcome → Outcome
whole_from p n (Bottom own) x = in_front own.log own.events x
whole_from p n (Push under l own) x =
    whole_from p n under (followed p n l.rest (called l (in_front own.log own.events x)))

-- where the innermost body is: before what it has still to do, at a call, or at its end
pub data Stage : Type 0 where
  Rests : (tree : ActTree) → Stage
  Calls : (routine : ℕ) (args : List Value) (rest : Out → ActTree) → Stage
  Ends : (end : End) → Stage

abbrev pub stage_of : Stop → Stage
stage_of (AtLine line rest) = Rests rest
stage_of (AtCall routine args rest) = Calls routine args rest
stage_of (AtEnd end) = Ends end

-- the stage of the caller after a call that ended so
abbrev pub stage_after : (Out → ActTree) → End → Stage
stage_after rest (Ended out) = Rests (rest out)
stage_after rest (Halted way) = Ends (Halted way)

-- what is left inside of it
abbrev pub left_inside : ProgramRows → ℕ → Stage → State → Outcome
left_inside p n (Rests tree) σ = run_of p n tree σ
left_inside p n (Calls routine args rest) σ = followed p n rest (call_of p (run_of p n) routine args σ)
left_inside p n (Ends end) σ = ends end σ

-- what is run, and the state before it
pub record First : Type 0 where
  pub stage : Stage
  pub state : State

abbrev pub run_first : ProgramRows → ℕ → First → Outcome
run_first p n first = left_inside p n first.stage first.state

-- A call that is run by itself. It is entered also where its frame is too large for the stack, as that of the program
-- block is.
abbrev pub first_call : (routine : ℕ) → List Value → State → First
first_call f args σ = record { stage = Calls f args Ret; state = σ }

-- what is left of a run, once known, gives the run
pub record Leads (p : ProgramRows) (first : First) (rest : ℕ → Outcome) : Type 0 where
  pub leads : (n : ℕ) (r : Result State Call) → rest n ≡ Some r → (k : ℕ) × (run_first p k first ≡ Some r)

-- ---- the table of calls

-- the calls so far, the open ones too
abbrev pub calls_so_far : OpenLevels → ℕ
calls_so_far (Bottom own) = length own.events
calls_so_far (Push under l own) = calls_so_far under + suc (length own.events)

-- the numbers of the open calls, the innermost first
abbrev pub numbers_of : OpenLevels → List ℕ
numbers_of (Bottom own) = []
numbers_of (Push under l own) = calls_so_far under ∷ numbers_of under

-- the log so far
abbrev pub logs_of : OpenLevels → List Touch
logs_of (Bottom own) = own.log
logs_of (Push under l own) = logs_of under ++ own.log

-- where the rows of calls stand that have a call above them in common: the first number, that call, its depth and one
-- more, and the entries of the log before them
pub record RowSpot : Type 0 where
  pub number : ℕ
  pub parent : Option ℕ
  pub depth : ℕ
  pub mark : ℕ

-- where a call would stand that is entered now
abbrev pub spot_of : OpenLevels → RowSpot
spot_of ls = record {
  number = calls_so_far ls;
  parent = slice_get (numbers_of ls) 0;
  depth = length (numbers_of ls);
  mark = length (logs_of ls);
}

-- where the calls stand that are below a call at a spot
abbrev pub below : RowSpot → RowSpot
below s = record { number = suc s.number; parent = Some s.number; depth = s.depth + 1; mark = s.mark }

abbrev pub parent_at : ℕ → Option ℕ → Option ℕ → Option ℕ
parent_at number outer None = outer
parent_at number outer (Some j) = Some (number + j)

abbrev pub call_row_at : RowSpot → List ℕ → ℕ → Marked Call → table.Call
call_row_at s bs k m = row_with m.event (parent_at s.number s.parent (parent_of bs k)) (s.depth + depth_of bs k)
    (s.number + last_below bs k) (s.mark + m.mark)

abbrev pub rows_at : RowSpot → List (Marked Call) → List table.Call
rows_at s ms = each_from (call_row_at s (belows ms)) 0 ms

-- the row of a call that was just entered
abbrev pub opened_row : OpenLevels → OpenLevel → table.Call
opened_row under l =
    new_call (calls_so_far under) (numbers_of under) l.routine l.args (side_of (length (logs_of under)) l.entry)

-- the first spot of a run
abbrev pub first_spot : RowSpot
first_spot = record { number = 0; parent = None; depth = 0; mark = 0 }

-- the rows of all calls so far; a call that is open has no end yet
abbrev pub rows_of : OpenLevels → List table.Call
rows_of (Bottom own) = rows_at first_spot own.events
rows_of (Push under l own) = rows_of under ++ opened_row under l ∷ rows_at (below (spot_of under)) own.events

abbrev pub recording_at : (routines : ℕ) → OpenLevels → Recording
recording_at routines ls = record { calls = rows_of ls; open_calls = numbers_of ls; routines = routines }

-- The calls below each call are among its body's calls. The depth of each open call is the number of those above it,
-- with those that were open before the first.
abbrev pub LevelsFit : (before : ℕ) → OpenLevels → Type 0
LevelsFit before (Bottom own) = Inside (belows own.events)
LevelsFit before (Push under l own) = Inside (belows own.events)
    × (l.entry.depth ≡ before + length (numbers_of under)) × LevelsFit before under

-- ---- the open calls in the code

-- an open call: where its frame begins, the cells of its frame, and what is done after it
pub record Open : Type 0 where
  pub base : ℕ
  pub cells : ℕ
  pub rest : Out → ActTree

abbrev pub open_of : OpenLevel → Open
open_of l = record { base = l.entry.top; cells = l.cells; rest = l.rest }

-- the open calls, the innermost first
abbrev pub opens_of : OpenLevels → List Open
opens_of (Bottom own) = []
opens_of (Push under l own) = open_of l ∷ opens_of under

-- what a runner shows: the open calls, the innermost first, the moment, and what is recorded of the calls so far
pub record View : Type 0 where
  pub opens : List Open
  pub moment : Moment
  pub recording : Recording

-- the open calls, with what is left inside the innermost, are on the way to the whole of what is run
pub record TowerAt (p : ProgramRows) (first : First) (stage : Stage) (v : View) : Type 0 where
  pub levels : OpenLevels
  pub opens : v.opens ≡ opens_of levels
  pub fits : LevelsFit first.state.depth levels
  pub recording : v.recording ≡ recording_at (length p.routines) levels
  pub log : v.moment.log ≡ logs_of levels
  pub calls : v.moment.state.calls ≡ first.state.calls + calls_so_far levels
  pub depth : v.moment.state.depth ≡ first.state.depth + length (numbers_of levels)
  pub items : v.moment.state.items ≡ first.state.items
  pub leads : Leads p first (λ n. whole_from p n levels (left_inside p n stage v.moment.state))

-- an activation that begins (6.2.3): its routine, its link and arguments, the cells of its frame, and where its body is
pub record Activation : Type 0 where
  pub routine : ℕ
  pub args : List Value
  pub cells : ℕ
  pub stage : Stage

abbrev pub activation : (routine : ℕ) → List Value → (cells : ℕ) → Stage → Activation
activation f args cells stage = record { routine = f; args = args; cells = cells; stage = stage }

-- a call was entered so
pub record CallBegins (p : ProgramRows) (e : Activation) (m m' : Moment) : Type 0
  where
    pub log : m'.log ≡ m.log
    pub calls : m'.state.calls ≡ m.state.calls + 1
    pub depth : m'.state.depth ≡ m.state.depth + 1
    pub steps : m'.state.steps ≤ m.state.steps
    pub output : m'.state.output ≡ m.state.output
    pub items : m'.state.items ≡ m.state.items
    pub is : (n : ℕ) → in_frame (at_work p (run_of p n) e.routine) e.args (opened m.state) (routine_at p e.routine)
        ≡ after_all (without_frame m.state.top e.cells) (left_inside p n e.stage m'.state)

-- all that was to be run is over, and this is what it left
pub record IsOver (p : ProgramRows) (first : First) (m : Moment) (kept : Recording) : Type 0 where
  pub result : Result State Call
  pub depth : ℕ
  pub is : run_first p depth first ≡ Some result
  pub after : m.state ≡ result.after
  pub items : m.state.items ≡ first.state.items
  pub log : m.log ≡ result.log
  pub recording : kept ≡ recording_of p (Some result)
