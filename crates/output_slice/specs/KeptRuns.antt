-- What is kept of a run: that of a program with an input of at most 4,194,304 bytes.
use Rattle.std.specs.Prelude.{◌+◌, ◌≡◌, ◌≤◌, ℕ, List, Some, drop, length, take}
use Rattle.core_program.specs.{ProgramRows.ProgramRows, RunLaws.most_bytes, State.State}
use Rattle.core_program.specs.Run.{Call, Marked, Result, run}
use Rattle.program_run.specs.{History.IsOfRun, declared.history.History.History}

pub record IsKeptRun (h : History) (r : Result State Call) : Type 0 where
  pub program : ProgramRows
  pub input : List ℕ
  pub few : length input ≤ most_bytes
  pub run_is : run program input h.budget ≡ Some r
  pub kept : IsOfRun program input h.budget h

abbrev pub IsKept : History → Type 0
IsKept h = (r : Result State Call) × IsKeptRun h r

-- the calls that a call of a run made itself or that are below these
abbrev pub below_of : Result State Call → (number : ℕ) → Marked Call → List (Marked Call)
below_of r number e = take e.event.below (drop (number + 1) r.events)
