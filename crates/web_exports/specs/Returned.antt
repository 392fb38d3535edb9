-- How a turn comes out, as numbers.
use Rattle.std.specs.Prelude.{if◌then◌else◌, ◌==◌, ◌≡◌, ◌⊎◌, ℕ, List, None, Option, Some, take}
use Rattle.web_page.specs.{Given.TurnGiven, Outcomes.TurnResult, Promises.KeepsPromises}
use Rattle.web_page.specs.declared.turn.SavedSession.{SavedSession}
use Rattle.web_page.specs.declared.turn.SavedSession.TheVariants.{Absent, Memory, TooLong, Whole}
use Rattle.web_exports.specs.declared.Came.{Came}

-- what is said of a saved session, by a number and a count of bytes
abbrev pub saved_by : (number count : ℕ) → SavedSession
saved_by number count =
    if number == 0 then Absent else if number == 1 then Whole count else if number == 2 then TooLong else Memory

abbrev pub result_in : Came → (screen saved : List ℕ) → TurnResult
result_in came screen saved = record {
  status = came.status;
  shown = take came.screen screen;
  saved = saved_by came.session came.saved;
  saved_room = saved;
}

-- the promises of the turn, where further files come as they should; else the status says so, or memory ran out
abbrev pub TurnOf : Option TurnGiven → TurnResult → Type 0
TurnOf (Some g) it = KeepsPromises g it
TurnOf None it = (it.status ≡ 10) ⊎ (it.status ≡ 7)
