-- What a turn promises, by what it is given and how it comes out.
use Rattle.std.specs.Prelude.{◌≡◌, ◌≢◌, ◌≤◌, ◌⊎◌, [], ℕ, All, List, None, Some, codes, length, true}
use Rattle.edge_ports.specs.{Files.FileMap, Files.file_at, Lines.lines_of, Told.GavePrefix}
use Rattle.edge_ports.specs.declared.ports.FetchFault.{FetchFault}
use Rattle.pas_lexer.specs.Limits.{source_bytes}
use Rattle.dialog_replies.specs.Fit.{misfit}
use Rattle.ask_session.specs.{Console.EndsInTime, Console.GoesOn, Dialog.Granted, Dialog.Missing, Dialog.Stored}
use Rattle.ask_session.specs.{Dialog.transcript, Outside.Outside, Reached.Reached, Reached.Telling, Reached.telling}
use Rattle.ask_session.specs.Wishes.{AreReadIn, FilesAfter, Wish, wishes_in}
use Rattle.debuggee.specs.{Program.NoProgram, References.IsReading}
use Rattle.debug_cli.specs.{Goes.Goes, Headline.Headline, Named.start_in, Named.subject_in, Setting.MeansNoSession}
use Rattle.debug_cli.specs.{Setting.Told, Status.code_of, declared.status.Status.Status}
use Rattle.debug_cli.specs.Meaning.{Requested, Source, budget_spelled}
use Rattle.web_page.specs.{Given.TurnGiven, Given.turn_files, Given.turn_meaning, Outcomes.IsGivenBack}
use Rattle.web_page.specs.{Outcomes.TurnResult, Outside.FilesState, Outside.counts_of, Outside.files_at_start}

-- ---- what is outside of the command

abbrev pub outside_of : FilesState → (left shown : List ℕ) → Outside
outside_of files left shown = record {
  files = Some files.files;
  counts = counts_of files;
  streams = record { left = Some left; given = Some shown };
}

abbrev pub outside_at_start : TurnGiven → Outside
outside_at_start g = outside_of (files_at_start g) g.console []

-- ---- a session can be held: the budget is spelled, the source is a program, the session that is gone on with is one

pub record CanAsk (g : TurnGiven) : Type 0 where
  pub request : Requested
  pub meant : turn_meaning g ≡ Some (Source request)
  pub told : Told request (Some (turn_files g)) (Some g.console)

-- what the lines of the console ask the files for, by what they were given
abbrev pub wishes_of_turn : {g : TurnGiven} → CanAsk g → (granted : List Granted) → List Wish
wishes_of_turn c granted =
    wishes_in (subject_in c.told.begun) (start_in c.told.begun) granted (lines_of c.told.console)

-- what is printed, by what these lines were given
abbrev pub transcript_of_turn : {g : TurnGiven} → CanAsk g → (granted : List Granted) → List ℕ
transcript_of_turn c granted = transcript (subject_in c.told.begun) (start_in c.told.begun) granted c.told.console

-- no store failed and no fetch did: a file that is not fetched is lacking or too long
abbrev pub WentWell : Granted → Type 0
WentWell (Stored stored) = stored ≡ true
WentWell (Missing FetchFault.Failed) = ⊥
WentWell granted = Unit {0}

-- what is said of some of its lines, and what they ask for
abbrev pub telling_of_turn : {g : TurnGiven} → CanAsk g → Telling
telling_of_turn c = telling (subject_in c.told.begun) (start_in c.told.begun)

-- ---- the promises

module _ (g : TurnGiven) (it : TurnResult) where
  -- The theorem of the command, on the very bytes that the caller gets.
  abbrev pub HasHeadline : Type 0
  HasHeadline = (c : CanAsk g) → it.status ≡ 0 → Headline c.told (Some []) (Some it.shown)

  -- At status 0 the screen got the transcript in which each line that asks to save is told that it was saved, and each
  -- that asks for a right program what the file of that name is; and the session is the text that the last line saved
  -- to `page.session`.
  abbrev pub IsTranscript : Type 0
  IsTranscript = (c : CanAsk g) → it.status ≡ 0
      → (granted : List Granted) × All WentWell granted × AreReadIn IsReading granted
      × (length granted ≡ length (wishes_of_turn c granted)) × (it.shown ≡ transcript_of_turn c granted)
      × (files : FileMap) × FilesAfter granted (wishes_of_turn c granted) (Some (turn_files g)) (Some files)
      × IsGivenBack it.saved it.saved_room (file_at files (codes "page.session"))

  -- At each status the screen got a first part of a transcript, of so many lines; each of their wishes was answered,
  -- and the files are those after these answers.
  abbrev pub IsFirstPart : Type 0
  IsFirstPart = (c : CanAsk g)
      → (granted : List Granted) × AreReadIn IsReading granted
      × (length granted ≤ length (wishes_of_turn c granted))
      × GavePrefix (Some []) (Some it.shown) (transcript_of_turn c granted)
      × Reached (telling_of_turn c) (lines_of c.told.console) granted (Some []) (Some it.shown)
      × (files : FileMap) × FilesAfter granted (wishes_of_turn c granted) (Some (turn_files g)) (Some files)
      × IsGivenBack it.saved it.saved_room (file_at files (codes "page.session"))

  -- A session that fits comes to its end, unless the room is too small or memory runs out.
  abbrev pub ComesToItsEnd : Type 0
  ComesToItsEnd = (c : CanAsk g) → misfit (subject_in c.told.begun) (start_in c.told.begun) ≡ None
      → EndsInTime c.told.console → (it.status ≡ 0) ⊎ (it.status ≡ 6) ⊎ (it.status ≡ 7)

  -- So does one whose console has no end in the bytes that are taken of it.
  abbrev pub IsSpent : Type 0
  IsSpent = (c : CanAsk g) → misfit (subject_in c.told.begun) (start_in c.told.begun) ≡ None
      → GoesOn c.told.console → (it.status ≡ 9) ⊎ (it.status ≡ 6) ⊎ (it.status ≡ 7)

  -- A budget that spells no number of steps is refused.
  abbrev pub RefusesBudget : Type 0
  RefusesBudget = turn_meaning g ≡ None → (it.status ≡ 2) ⊎ (it.status ≡ 6) ⊎ (it.status ≡ 7)

  -- So is a source that is no program.
  abbrev pub RefusesSource : Type 0
  RefusesSource = (steps : ℕ) → budget_spelled g.budget ≡ Some steps → length g.source ≤ source_bytes
      → NoProgram g.source → (it.status ≡ 3) ⊎ (it.status ≡ 6) ⊎ (it.status ≡ 7)

  -- And a session that is none, or does not fit the run.
  abbrev pub RefusesSession : Type 0
  RefusesSession = MeansNoSession (turn_meaning g) (Some (turn_files g))
      → (it.status ≡ 8) ⊎ (it.status ≡ 6) ⊎ (it.status ≡ 7)

  -- By the status: why it comes, what the screen got, and what became of the files.
  abbrev pub GoesByStatus : Type 0
  GoesByStatus = (status : Status) × (it.status ≡ code_of status)
      × (files : FilesState) × IsGivenBack it.saved it.saved_room (file_at files.files (codes "page.session"))
      × (left : List ℕ) × Goes (turn_meaning g) (outside_at_start g) (outside_of files left it.shown) status

  -- The console does not fail.
  abbrev pub HearsConsole : Type 0
  HearsConsole = it.status ≢ 5

-- all of them
pub record KeepsPromises (g : TurnGiven) (it : TurnResult) : Type 0 where
  pub headline : HasHeadline g it
  pub transcript : IsTranscript g it
  pub prefix : IsFirstPart g it
  pub done : ComesToItsEnd g it
  pub spent : IsSpent g it
  pub usage : RefusesBudget g it
  pub no_program : RefusesSource g it
  pub no_session : RefusesSession g it
  pub goes : GoesByStatus g it
  pub console : HearsConsole g it
