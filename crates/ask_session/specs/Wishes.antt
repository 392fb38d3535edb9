-- What the lines of a console ask of the keeper, and what becomes of it.
use Rattle.std.specs.Prelude.{if◌then◌else◌, ◌++◌, ◌∷◌, ◌≡◌, ◌≤◌, ◌⊎◌, [], ℕ, All, Bool, Err, List, None, Ok, Option}
use Rattle.std.specs.Prelude.{Some, false, length, true}
use Rattle.edge_ports.specs.Counts.{KeeperCounts, counts_after, counts_stored}
use Rattle.edge_ports.specs.Files.{FileMap, HoldsFile, HoldsLonger, KeepsOthers, LacksFile, StoresFile}
use Rattle.edge_ports.specs.declared.ports.{FetchFault.FetchFault, StoreFault.StoreFault}
use Rattle.core_program.specs.ProgramRows.{ProgramRows}
use Rattle.dialog_replies.specs.{References.reference_bytes, Said.Held, Said.Said, Start.saved_text, Subject.Subject}
use Rattle.dialog_replies.specs.declared.{references.Reading.Reading, start.Start.Start}
use Rattle.ask_session.specs.Dialog.{Errand, Fetched, Granted, Missing, Stored, ToFetch, ToStore, ends_session}
use Rattle.ask_session.specs.Dialog.{errand_in, granted_after_line, held_after_line, held_at_start, next_granted}
use Rattle.ask_session.specs.declared.dialog.Ending.{Ending}

-- a file that is to be stored: its name, and the session's text
pub record Save : Type 0 where
  pub file : List ℕ
  pub text : List ℕ

-- what is asked for: to store a file, or to fetch one
pub data Wish : Type 0 where
  StoreFile : Save → Wish
  FetchFile : (file : List ℕ) → Wish

-- what a line asks for, if it does; what is stored is the session of that moment
abbrev pub wish_of : Subject → Start → Said → Option Errand → List Wish
wish_of s start said (Some (ToStore file)) =
    StoreFile (record { file = file; text = saved_text s start said }) ∷ []
wish_of s start said (Some (ToFetch file)) = FetchFile file ∷ []
wish_of s start said None = []

-- what the lines of a console ask for, in order, up to `quit`, by what they were given
abbrev pub wishes_asked : Subject → Start → Held → (granted : List Granted) → (lines : List (List ℕ)) → List Wish
wishes_asked s start held granted [] = []
wishes_asked s start held granted (line ∷ lines) =
    if ends_session line then [] else wish_of s start held.said (errand_in line)
    ++ wishes_asked s start (held_after_line s held (next_granted granted) line)
    (granted_after_line (errand_in line) granted) lines

abbrev pub wishes_in : Subject → Start → (granted : List Granted) → (lines : List (List ℕ)) → List Wish
wishes_in s start granted lines = wishes_asked s start (held_at_start start) granted lines

-- ---- what becomes of the files

-- the file was stored, or of its name nothing is known; all others stay
abbrev pub FileAfter : (stored : Bool) → Save → (before now : Option FileMap) → Type 0
FileAfter true save before now = StoresFile save.file save.text before now
FileAfter false save before now = KeepsOthers save.file before now

-- a file of this name was not fetched, for this reason: it is lacking, or too long, where files are told; or the keeper
-- failed
abbrev pub IsMissing : FetchFault → (file : List ℕ) → Option FileMap → Type 0
IsMissing FetchFault.Absent file files = LacksFile files file
IsMissing (FetchFault.TooLong limit) file files = HoldsLonger files file reference_bytes
IsMissing FetchFault.Failed file files = Unit {0}
IsMissing FetchFault.Memory file files = ⊥

-- what was fetched is what the file of this name has, and is no longer than a reference may be
pub record IsBrought (file bytes : List ℕ) (files : Option FileMap) : Type 0 where
  pub held : HoldsFile files file bytes
  pub short : length bytes ≤ reference_bytes

-- what was given is what was asked for; a fetch leaves all files
abbrev pub GrantedWish : Granted → Wish → (before now : Option FileMap) → Type 0
GrantedWish (Stored stored) (StoreFile save) before now = FileAfter stored save before now
GrantedWish (Fetched bytes reading) (FetchFile file) before now = IsBrought file bytes before × (now ≡ before)
GrantedWish (Missing why) (FetchFile file) before now = IsMissing why file before × (now ≡ before)
GrantedWish granted wish before now = ⊥

-- the files after as many of these wishes as were answered, one after the other
abbrev pub FilesAfter : (granted : List Granted) → List Wish → (before now : Option FileMap) → Type 0
FilesAfter [] wishes before now = now ≡ before
FilesAfter (g ∷ granted) [] before now = now ≡ before
FilesAfter (g ∷ granted) (wish ∷ wishes) before now =
    (files : Option FileMap) × GrantedWish g wish before files × FilesAfter granted wishes files now

-- ---- what bytes are read as

-- what bytes may be read as
abbrev pub Reads : Type 1
Reads = (bytes : List ℕ) → Reading ProgramRows → Type 0

-- what was fetched is read as this
abbrev pub IsReadIn : Reads → Granted → Type 0
IsReadIn reads (Fetched bytes reading) = reads bytes reading
IsReadIn reads granted = Unit {0}

abbrev pub AreReadIn : Reads → List Granted → Type 0
AreReadIn reads granted = All (IsReadIn reads) granted

-- ---- a keeper's counts

abbrev pub counts_given : Granted → KeeperCounts → KeeperCounts
counts_given (Stored true) counts = counts_stored (Ok tt) counts
counts_given (Stored false) counts = counts_stored (Err StoreFault.Failed) counts
counts_given (Fetched bytes reading) counts = counts
counts_given (Missing why) counts = counts_after (Err why) counts

-- what it gave is read as this, if it is to be read
abbrev pub reading_in : Granted → Option (Reading ProgramRows)
reading_in (Fetched bytes reading) = Some reading
reading_in granted = None

-- a keeper at one moment: its files, where it tells them, and its counts
pub record KeeperAt : Type 0 where
  pub files : Option FileMap
  pub counts : KeeperCounts

-- a file of this name was fetched and read, or none was fetched
abbrev pub IsReadFrom : Reads → (file : List ℕ) → KeeperAt → Option (Reading ProgramRows) → KeeperAt → Type 0
IsReadFrom reads file before reading now =
    (granted : Granted) × IsReadIn reads granted × (reading ≡ reading_in granted)
    × GrantedWish granted (FetchFile file) before.files now.files × (now.counts ≡ counts_given granted before.counts)

-- after these were given
abbrev pub counts_granted : (granted : List Granted) → KeeperCounts → KeeperCounts
counts_granted [] counts = counts
counts_granted (g ∷ granted) counts = counts_granted granted (counts_given g counts)

-- ---- by how the dialog ended

-- each wish was answered; where the screen failed or memory ran out, the first ones were
abbrev pub AreAnswered : Ending → (granted : List Granted) → List Wish → Type 0
AreAnswered Ending.Done granted wishes = length granted ≡ length wishes
AreAnswered Ending.Console granted wishes = length granted ≡ length wishes
AreAnswered Ending.Spent granted wishes = length granted ≡ length wishes
AreAnswered Ending.Refused granted wishes = length granted ≡ length wishes
AreAnswered Ending.Screen granted wishes = length granted ≤ length wishes
AreAnswered Ending.Memory granted wishes = length granted ≤ length wishes

-- the counts are those after the answers, unless it was one more store that ran out of memory
abbrev pub CountsAfter : Ending → (granted : List Granted) → (before now : KeeperCounts) → Type 0
CountsAfter Ending.Done granted before now = now ≡ counts_granted granted before
CountsAfter Ending.Console granted before now = now ≡ counts_granted granted before
CountsAfter Ending.Spent granted before now = now ≡ counts_granted granted before
CountsAfter Ending.Refused granted before now = now ≡ counts_granted granted before
CountsAfter Ending.Screen granted before now = now ≡ counts_granted granted before
CountsAfter Ending.Memory granted before now =
    (now ≡ counts_granted granted before)
    ⊎ (now ≡ counts_stored (Err StoreFault.Memory) (counts_granted granted before))
