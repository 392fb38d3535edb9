-- A recorded call's own work done again, with the recorded effects of the calls that it made in place of their runs.
use Rattle.std.specs.Prelude.{if◌then◌else◌, ◌&&◌, ◌+◌, ◌==◌, ◌∷◌, [], ℕ, Bool, List, None, Option, Some, drop, false}
use Rattle.std.specs.{Prelude.true, Ordering.int_eq}
use Rattle.cell_value.specs.declared.{values.Value.Value, values.Value.TheVariants.Undefined, ways_out.WayOut.WayOut}
use Rattle.cell_value.specs.declared.values.Value.TheVariants.{Bits, Frame, Heap, Nil, Number, Place, Routine}
use Rattle.core_program.specs.{Apply.apply, ProgramRows.ProgramRows, ProgramRows.routine_at, Run.framed_run, Run.opened}
use Rattle.core_program.specs.{Run.within, State.State, Tree.ActTree, Tree.Jump, Tree.Nothing, Tree.Scalar}
use Rattle.core_program.specs.Run.{Call, End, Ended, Halted, Holder, Result, Rules, after_all, at_work, call_closed}

-- what is met on the way
pub data Event : Type 0 where
  -- a statement that is neither compound nor empty began on this line
  LineOf : (line : ℕ) → Event
  -- the call of this number was met in a state
  ChildOf : (number : ℕ) (before : State) → Event

-- a state, and the calls of the run that are still to be met: each one, then those below it
pub record Replaying : Type 0 where
  pub state : State
  -- the number of the first of them
  pub number : ℕ
  pub calls : List Call

abbrev pub same_numbers : List ℕ → List ℕ → Bool
same_numbers [] [] = true
same_numbers (x ∷ xs) (y ∷ ys) = (x == y) && same_numbers xs ys
same_numbers xs ys = false

abbrev pub same_value : Value → Value → Bool
same_value Undefined Undefined = true
same_value (Number n) (Number k) = int_eq n k
same_value (Bits a) (Bits b) = same_numbers a.words b.words
same_value Nil Nil = true
same_value (Heap a) (Heap b) = a == b
same_value (Place a) (Place b) = a == b
same_value (Frame a) (Frame b) = a == b
same_value (Routine r a) (Routine s b) = (r == s) && (a == b)
same_value v w = false

abbrev pub same_args : List Value → List Value → Bool
same_args [] [] = true
same_args (v ∷ vs) (w ∷ ws) = same_value v w && same_args vs ws
same_args vs ws = false

-- how a call ended, by its record
abbrev pub end_of : WayOut → Option Value → End
end_of WayOut.Returned None = Ended Nothing
end_of WayOut.Returned (Some v) = Ended (Scalar v)
end_of (WayOut.Jumped label base) result = Ended (Jump label base)
end_of way result = Halted way

abbrev pub Replayed : Type 0
Replayed = Option (Result Replaying Event)

-- the effect of the next call of the run, if that is the call that is made
abbrev pub next_call : ℕ → List Value → (σ : State) (number : ℕ) → List Call → Replayed
next_call routine args σ number [] = None
next_call routine args σ number (c ∷ cs) = if (c.routine == routine) && same_args c.args args then Some (record {
  end = end_of c.way c.result;
  after = record { state = apply c σ; number = number + (c.below + 1); calls = drop c.below cs };
  log = [];
  events = (record { mark = 0; event = ChildOf number σ }) ∷ [];
}) else None

-- changes the state
abbrev pub on_state : (State → State) → Replaying → Replaying
on_state change s = record s { state = change s.state }

-- the state in what is done again
abbrev pub in_replaying : Holder Replaying
in_replaying = record { state = λ s. s.state; change = on_state }

abbrev pub replaying : Rules Replaying Event
replaying = record {
  state_of = λ s. s.state;
  with_state = λ s τ. record s { state = τ };
  line = λ n. (record { mark = 0; event = LineOf n }) ∷ [];
  call = λ run routine args s. next_call routine args s.state s.number s.calls;
}

abbrev pub replay_of : ProgramRows → ℕ → ActTree → Replaying → Replayed
replay_of p = within replaying p

-- The own work of a call, from its recorded entry: its frame is made, its routine is at work, and its frame is removed,
-- as in a run. `number` is that of the call, and `below` are the calls below it.
abbrev pub body : ProgramRows → (depth : ℕ) → (c : Call) → (number : ℕ) → (below : List Call) → Replayed
body p depth c number below =
    after_all (on_state (call_closed c.depth)) (framed_run in_replaying (at_work p (replay_of p depth) c.routine) c.args
    (record { state = opened c.entry; number = number + 1; calls = below }) (routine_at p c.routine))
