-- That each call of a run can be told, by what is kept of the run.
use Rattle.std.specs.Prelude.{◌≡◌, ◌≤◌, ℕ, List, Some, length, slice_get}
use Rattle.core_program.specs.{ProgramRows.ProgramRows, RunLaws.most_bytes}
use Rattle.call_tree.specs.{Told.IsTold, declared.records.Call.Call}
use Rattle.program_run.specs.{History.IsOfRun, declared.history.History.History}

-- so it is with each call that is kept of a run, where the input is not too long
abbrev pub CallsAreTold : Type 0
CallsAreTold = (p : ProgramRows) (input : List ℕ) (budget : ℕ) (h : History) → length input ≤ most_bytes
    → IsOfRun p input budget h → (number : ℕ) (c : Call) → slice_get h.calls.calls number ≡ Some c
    → IsTold h.log h.input c
