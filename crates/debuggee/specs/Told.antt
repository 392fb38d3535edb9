-- What is kept of a run: all of it, and of each call can be told what it did.
use Rattle.std.specs.Prelude.{◌≡◌, ℕ, List, Some, slice_get}
use Rattle.std.specs.Coded.{Unit-prop, le_prop}
use Rattle.cell_value.specs.{Effects.IsCountable, declared.entries.Touch.Touch}
use Rattle.core_program.specs.{ProgramRows.ProgramRows, Run.input_items, Run.run}
use Rattle.call_tree.specs.{Told.IsTold, declared.records.Call.Call}
use Rattle.program_run.specs.{History.log_of, History.output_of, History.recording_of, declared.history.History.History}

-- all that is kept of the run of a program with an input and a budget of steps
abbrev pub history_of : ProgramRows → (input : List ℕ) → (budget : ℕ) → History
history_of p input budget = record {
  calls = recording_of p (run p input budget);
  log = log_of (run p input budget);
  input = input_items input;
  output = output_of (run p input budget);
  budget = budget;
}

-- of each of these calls can be told what it did, by the log and the items of the input
abbrev pub AreTold : List Touch → (items : List ℕ) → List Call → Type 0
AreTold log items calls = (number : ℕ) (c : Call) → slice_get calls number ≡ Some c → IsTold log items c

-- that the effect of a touch can be counted has one proof at most
pub counts_once : (t : Touch) → IsProp (IsCountable t)
counts_once (Touch.Read at v) = Unit-prop
counts_once (Touch.Has at answer) = Unit-prop
counts_once (Touch.Write at v) = Unit-prop
counts_once (Touch.Make first cells kind) = le_prop
counts_once (Touch.Drop first cells) = le_prop
counts_once (Touch.Look at) = le_prop
counts_once (Touch.Take many) = Unit-prop
counts_once (Touch.Give byte) = Unit-prop
