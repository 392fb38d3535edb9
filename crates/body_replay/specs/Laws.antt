-- What the own work of each call of a run comes to, and that each call agrees with its own entry.
use Rattle.std.specs.Prelude.{◌↔◌, ◌≡◌, ℕ, IsTrue, List, Some}
use Rattle.std.specs.List.{slice_get}
use Rattle.core_program.specs.{Agree.Agrees, Agree.EndedByItself, Apply.apply, ProgramRows.ProgramRows}
use Rattle.core_program.specs.{RunLaws.OfEachCall, State.State, WholeTables.WholeTables}
use Rattle.core_program.specs.Replay.{Event, Replayed, Replaying}
use Rattle.core_program.specs.Run.{Call, Result, result_in, run, way_out}
use Rattle.body_replay.specs.{Agreement.agrees, Replays.records_of, Replays.work_of}

-- The own work of a call, which is its body, run from its recorded entry with the recorded effects of the calls that it
-- makes, gives exactly its recorded way out, its recorded result and its recorded exit.
pub record GivesItsExit (c : Call) (work : Replayed) : Type 0 where
  pub body : Result Replaying Event
  pub is : work ≡ Some body
  pub way : way_out body.end ≡ c.way
  pub result : result_in body.end ≡ c.result
  pub exit : body.after.state ≡ c.exit

-- so it is with each call of the run of each program with whole tables, with each input and each budget of steps
abbrev pub BodiesGiveTheirExits : Type 0
BodiesGiveTheirExits = (p : ProgramRows) → WholeTables p → (input : List ℕ) (budget number : ℕ) (c : Call)
    → slice_get (records_of (run p input budget)) number ≡ Some c
    → GivesItsExit c (work_of p (run p input budget) number)

-- Each call of each run that ended by itself, by a jump or by a fault agrees with its own recorded entry, and its
-- effect makes its recorded exit of that.
abbrev pub CallsCarryToThemselves : Type 0
CallsCarryToThemselves = OfEachCall (λ p number c below. EndedByItself c.way
    → Agrees c below c.entry × (apply c c.entry ≡ c.exit))

-- the test of agreement says what agreement is
abbrev pub AgreementIsTested : Type 0
AgreementIsTested = (c : Call) (below : List Call) (σ : State) → IsTrue (agrees c below σ) ↔ Agrees c below σ
