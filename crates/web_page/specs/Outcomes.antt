-- How a turn comes out.
use Rattle.std.specs.Prelude.{◌<◌, ◌≡◌, ℕ, IsSomeAnd, List, None, Option, Some, length, take}
use Rattle.web_page.specs.declared.turn.{SavedSession.SavedSession, TurnOutcome.TurnOutcome}
use Rattle.web_page.specs.declared.turn.SavedSession.TheVariants.{Absent, Memory, TooLong, Whole}

-- what the caller gets: the exit status; the bytes that the screen got; and the session that was saved, as the room
-- for it tells it
pub record TurnResult : Type 0 where
  pub status : ℕ
  pub shown : List ℕ
  pub saved : SavedSession
  pub saved_room : List ℕ

abbrev pub result_of : TurnOutcome → (screen saved : List ℕ) → TurnResult
result_of outcome screen saved = record {
  status = outcome.status;
  shown = take outcome.screen screen;
  saved = outcome.saved;
  saved_room = saved;
}

-- what a room gets of a file: its bytes at the front, or why not
abbrev pub IsGivenBack : SavedSession → (room : List ℕ) → (file : Option (List ℕ)) → Type 0
IsGivenBack Absent room file = file ≡ None
IsGivenBack (Whole count) room file = file ≡ Some (take count room)
IsGivenBack TooLong room file = IsSomeAnd file (λ bytes. length room < length bytes)
IsGivenBack Memory room file = Unit {0}
