-- What may be known before the command begins: the files that its words name, the program, and the console's bytes; and
-- what follows.
use Rattle.std.specs.Prelude.{◌≡◌, ◌⊎◌, [], ℕ, IsSome, List, None, Option, Some}
use Rattle.edge_ports.specs.{Counts.KeeperCounts, Files.FileMap, Lines.lines_of}
use Rattle.dialog_replies.specs.Fit.{misfit}
use Rattle.ask_session.specs.{Console.EndsInTime, Console.GoesOn, Console.NotRisen, Dialog.Granted, Dialog.transcript}
use Rattle.ask_session.specs.{Reached.Telling, Reached.telling, Wishes.Wish, Wishes.wishes_in}
use Rattle.debuggee.specs.Program.{NoProgram}
use Rattle.debug_cli.specs.{Named.subject_in, Outside.Faults, Outside.NoFetchFailed, declared.status.Status.Status}
use Rattle.debug_cli.specs.Meaning.{Made, Meant, Requested, Source}
use Rattle.debug_cli.specs.Named.{Begun, IsSource, MadeProgram, SessionRefused, Words, made_text, meaning, start_in}

-- a session can be held: the keeper tells its files, and they are what the request names; and the console tells its
-- bytes
pub record Told (r : Requested) (files : Option FileMap) (left : Option (List ℕ)) : Type 0 where
  pub files_told : IsSome files
  pub begun : Begun r files
  pub console : List ℕ
  pub console_told : left ≡ Some console

-- that is so, or the words mean a made program
pub data Setting (words : Words) (files : Option FileMap) (left : Option (List ℕ)) : Type 0 where
  InFiles : (r : Requested) → (meaning words ≡ Some (Source r)) → (told : Told r files left) → Setting words files left
  IsMade : (number : ℕ) → (meaning words ≡ Some (Made number)) → (x : MadeProgram number) → Setting words files left

-- what is said of a made program: its lines, and no file is asked for
abbrev pub telling_made : {number : ℕ} → MadeProgram number → Telling
telling_made x = record { text = λ granted lines. made_text x; asked = λ granted lines. [] }

module _ {words : Words} {files : Option FileMap} {left : Option (List ℕ)} where
  -- The whole of what is printed, by what the lines were given that ask the keeper; of a made program its lines.
  abbrev pub transcript_of : Setting words files left → (granted : List Granted) → List ℕ
  transcript_of (InFiles r means told) granted =
      transcript (subject_in told.begun) (start_in told.begun) granted told.console
  transcript_of (IsMade number means x) granted = made_text x

  -- what the lines of the console ask for
  abbrev pub wishes_of : Setting words files left → (granted : List Granted) → List Wish
  wishes_of (InFiles r means told) granted =
      wishes_in (subject_in told.begun) (start_in told.begun) granted (lines_of told.console)
  wishes_of (IsMade number means x) granted = []

  -- the lines of the console; of a made program none is read
  abbrev pub lines_of_console : Setting words files left → List (List ℕ)
  lines_of_console (InFiles r means told) = lines_of told.console
  lines_of_console (IsMade number means x) = []

  -- what is said of them, and what they ask for
  abbrev pub telling_of : Setting words files left → Telling
  telling_of (InFiles r means told) = telling (subject_in told.begun) (start_in told.begun)
  telling_of (IsMade number means x) = telling_made x

  -- The status that is to come: of a session that fits the run or gives its replies alone, by whether the console ends
  -- in time.
  abbrev pub ComesTo : Setting words files left → Status → Type 0
  ComesTo (InFiles r means told) Status.Done =
      (misfit (subject_in told.begun) (start_in told.begun) ≡ None) × EndsInTime told.console
  ComesTo (InFiles r means told) Status.Spent =
      (misfit (subject_in told.begun) (start_in told.begun) ≡ None) × GoesOn told.console
  ComesTo (IsMade number means x) Status.Done = Unit {0}
  ComesTo s wanted = ⊥

  -- no fetch of a file that the words name failed; a made program names none
  abbrev pub AllFetched : Setting words files left → (before now : KeeperCounts) → (left' : Option (List ℕ)) → Type 0
  AllFetched (InFiles r means told) before now left' = NoFetchFailed before now left left'
  AllFetched (IsMade number means x) before now left' = Unit {0}

  -- nor did the console or the screen fail; of a made program there is but the screen
  abbrev pub NothingFailed : Setting words files left → (before now : Faults) → (left' : Option (List ℕ)) → Type 0
  NothingFailed (InFiles r means told) before now left' =
      NoFetchFailed before.keeper now.keeper left left' × NotRisen before.console now.console
      × NotRisen before.screen now.screen
  NothingFailed (IsMade number means x) before now left' = NotRisen before.screen now.screen

-- ---- words that mean a source of which no session can be held

-- the source is no program
abbrev pub MeansNoProgram : Option Meant → Option FileMap → Type 0
MeansNoProgram None files = ⊥
MeansNoProgram (Some m) files = (bytes : List ℕ) × IsSource m files bytes × NoProgram bytes

-- the file that is named as a session's is none, or its session does not fit the run
abbrev pub MeansNoSession : Option Meant → Option FileMap → Type 0
MeansNoSession (Some (Source r)) files =
    SessionRefused r files ⊎ ((b : Begun r files) × IsSome (misfit (subject_in b) (start_in b)))
MeansNoSession m files = ⊥

-- they name no file
abbrev pub NamesNoFile : Option Meant → Type 0
NamesNoFile (Some (Source r)) = ⊥
NamesNoFile m = Unit {0}
