-- What the reference does where a call of the subject was entered, and when that is the same as what the call did.
use Rattle.std.specs.Prelude.{◌-◌, ◌∷◌, ◌≡◌, [], ℕ, List, Option, Some, drop, length, map, option_and_then, suc}
use Rattle.std.specs.{Prelude.unwrap_or, Prelude.zero, FinMap.empty, FinMap.get, List.range_with_len}
use Rattle.cell_value.specs.{Effects.head_of, declared.ways_out.WayOut.WayOut}
use Rattle.cell_value.specs.declared.values.Value.{Value, TheVariants.Frame, TheVariants.Nil, TheVariants.Undefined}
use Rattle.core_program.specs.{Blocks.filled, Numbering.calls_of, ProgramRows.frame_of, Run.Call, Run.Outcome}
use Rattle.core_program.specs.State.{State, stack_end}
use Rattle.program_run.specs.CalledFrom.{call_from}
use Rattle.reference_oracle.specs.{Fitting.Asked, declared.matches.Match.Match}
use Rattle.reference_oracle.specs.Matches.{in_reference, in_subject, matches}

-- ---- the state from which the reference is asked

-- what the cell of the reference's variables at an address holds: what the matching cell of the subject held when the
-- call was entered; a cell of no matching variable has no value
abbrev pub held_at_entry : List Match → State → (address : ℕ) → Value
held_at_entry ms σ address = unwrap_or (option_and_then (λ a. get σ.cells a) (in_subject ms address)) Undefined

-- the frame of the reference's program block, of this many cells: its link, which leads nowhere, and its variables
abbrev pub block_frame : List Match → State → (cells : ℕ) → List Value
block_frame ms σ zero = []
block_frame ms σ (suc variables) = Nil ∷ map (held_at_entry ms σ) (range_with_len 1 variables)

-- Its program block is at work and nothing was done yet; the input is what the call found of it; and the steps are
-- those that the subject's run had.
abbrev pub reference_entry : Asked → State
reference_entry a = record {
  cells = filled 0 (block_frame (matches a.programs) a.call.entry (frame_of a.programs.reference 0)) empty;
  top = frame_of a.programs.reference 0;
  fresh = stack_end;
  items = drop a.call.entry.place a.call.entry.items;
  place = 0;
  output = [];
  steps = a.budget;
  calls = 1;
  depth = 1;
}

-- a place is that of the matching cell, and another value is the same
abbrev pub moved_value : List Match → Value → Value
moved_value ms (Value.Place address) = Value.Place (unwrap_or (in_reference ms address) address)
moved_value ms v = v

-- the routine is declared in the program block, whose frame begins at 0
abbrev pub reference_args : Asked → List Value
reference_args a = Frame 0 ∷ map (moved_value (matches a.programs)) (drop 1 a.call.args)

-- the call of this routine of the reference there
abbrev pub reference_answer : Asked → (routine : ℕ) → Outcome
reference_answer a routine = call_from a.programs.reference routine (reference_args a) (reference_entry a)

-- its record, which is the first; there is one, since each call of a routine of whole tables has a result
abbrev pub answer_of : Asked → (routine : ℕ) → Option Call
answer_of a routine = head_of (map (λ m. m.event) (calls_of (reference_answer a routine)))

-- ---- the same answer

-- both returned; or both had a fault of one kind, on whatever line
abbrev pub SameWay : (way other : WayOut) → Type 0
SameWay WayOut.Returned WayOut.Returned = Unit {0}
SameWay (WayOut.Faulted kind line) (WayOut.Faulted other there) = kind ≡ other
SameWay way other = ⊥

-- how many items a call took, and the bytes that it gave
abbrev pub items_taken : Call → ℕ
items_taken c = c.exit.place - c.entry.place

abbrev pub bytes_given : Call → List ℕ
bytes_given c = drop (length c.entry.output) c.exit.output

-- the reference did what the call did
pub record IsSameAnswer (a : Asked) (d : Call) : Type 0 where
  pub way : SameWay a.call.way d.way
  pub result : d.result ≡ a.call.result
  -- the cells of the matching variables are left the same
  pub cells : (address there : ℕ) → in_reference (matches a.programs) address ≡ Some there
      → get d.exit.cells there ≡ get a.call.exit.cells address
  pub taken : items_taken d ≡ items_taken a.call
  pub given : bytes_given d ≡ bytes_given a.call
