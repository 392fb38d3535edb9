-- What is kept of a run.
use Rattle.std.specs.Prelude.{if◌then◌else◌, ◌&&◌, ◌==◌, ◌∷◌, ◌≡◌, [], ℕ, List, None, Option, Some, length}
use Rattle.std.specs.FinMap.{empty}
use Rattle.cell_value.specs.declared.entries.Touch.{Touch}
use Rattle.core_program.specs.{Numbering.calls_of, ProgramRows.ProgramRows, State.State, State.stack_end}
use Rattle.core_program.specs.Run.{Outcome, input_items, run}
use Rattle.call_tree.specs.Recording.{Recording}
use Rattle.program_run.specs.{Table.table_of, declared.history.History.History}

-- what is recorded of the calls of a run of a program, of which none is open
abbrev pub recording_of : ProgramRows → Outcome → Recording
recording_of p x = record { calls = table_of (calls_of x); open_calls = []; routines = length p.routines }

-- the log of a run
abbrev pub log_of : Outcome → List Touch
log_of None = []
log_of (Some r) = r.log

-- the bytes that a run gave out
abbrev pub output_of : Outcome → List ℕ
output_of None = []
output_of (Some r) = r.after.output

-- what is kept is all that of the run of this program, with this input and this budget of steps
pub record IsOfRun (p : ProgramRows) (input : List ℕ) (budget : ℕ) (h : History) : Type 0 where
  pub calls : h.calls ≡ recording_of p (run p input budget)
  pub log : h.log ≡ log_of (run p input budget)
  pub output : h.output ≡ output_of (run p input budget)
  pub items : h.input ≡ input_items input
  pub steps : h.budget ≡ budget

-- the state before a run with these items of the input and a budget of steps
abbrev pub first_state : (items : List ℕ) → (budget : ℕ) → State
first_state items budget = record {
  cells = empty;
  top = 0;
  fresh = stack_end;
  items = items;
  place = 0;
  output = [];
  steps = budget;
  calls = 0;
  depth = 0;
}

-- the items that a byte of the input adds, by the byte after it, if there is one
abbrev pub items_at : ℕ → Option ℕ → List ℕ
items_at b None = if b == 10 then 256 ∷ [] else b ∷ 256 ∷ []
items_at b (Some c) = if b == 10 then 256 ∷ [] else if (b == 13) && (c == 10) then [] else b ∷ []
