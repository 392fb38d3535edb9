-- Why what the words name is refused, and what is said of it.
use Rattle.std.specs.Prelude.{◌≡◌, ◌⊎◌, ℕ, Err, IfSome, List, None, Ok, Option, Result, Some}
use Rattle.edge_ports.specs.{Files.FileMap, declared.ports.FetchFault.FetchFault}
use Rattle.pas_lexer.specs.Limits.{source_bytes}
use Rattle.code_checker.specs.declared.faults.SourceFault.{SourceFault}
use Rattle.session_file.specs.{Whole.IsWhole, declared.session.LoadFault.LoadFault}
use Rattle.ask_session.specs.Outside.{Outside}
use Rattle.debuggee.specs.Program.{IsProgram}
use Rattle.debug_cli.specs.{Given.GivesNothing, Given.GivesText, Goes.Owes, Meaning.Meant, Meaning.Requested}
use Rattle.debug_cli.specs.{Named.IsFetched, Named.IsInput, Named.IsSaved, Outside.CountsOneFault}
use Rattle.debug_cli.specs.Texts.{file_line, refused_line, session_line}
use Rattle.debug_cli.specs.declared.{files.Supplied.Supplied, refusals.Refusal.Refusal, status.Status.Status}
use Rattle.debug_cli.specs.declared.status.Status.TheVariants as status

-- the status that comes with a refusal
abbrev pub refusal_status : Refusal → Status
refusal_status (Refusal.Source why) = status.Source
refusal_status (Refusal.File name why) = status.File
refusal_status (Refusal.Session why) = status.Session
refusal_status Refusal.Memory = status.Memory

-- ---- the line on it; where memory ran out there is none

abbrev pub source_told : SourceFault → Option (List ℕ)
source_told (SourceFault.Refused why line byte) = Some (refused_line why line byte)
source_told SourceFault.Memory = None

abbrev pub file_told : FetchFault → (name : List ℕ) → Option (List ℕ)
file_told FetchFault.Memory name = None
file_told why name = Some (file_line why name)

abbrev pub session_told : LoadFault → Option (List ℕ)
session_told LoadFault.Memory = None
session_told why = Some (session_line why)

abbrev pub line_on : Refusal → Option (List ℕ)
line_on (Refusal.Source why) = source_told why
line_on (Refusal.File name why) = file_told why name.now
line_on (Refusal.Session why) = session_told why
line_on Refusal.Memory = None

-- it is given, where there is one, and the command ends with this status; or memory runs out before
abbrev pub GivesLine : Option (List ℕ) → (wanted result : Status) → (given given' : Option (List ℕ)) → Type 0
GivesLine line wanted result given given' =
    ((text : List ℕ) × (line ≡ Some text) × GivesText result wanted text given given')
    ⊎ GivesNothing result given given'

-- ---- when it comes

-- What is said is what is owed at its status. Files were fetched and not stored.
pub record IsRefusal (m : Meant) (before after : Outside) (why : Refusal) : Type 0 where
  pub owed : (text : List ℕ) → line_on why ≡ Some text → Owes (Some m) before after (refusal_status why) text
  pub counts : CountsOneFault before.counts after.counts
  pub files : after.files ≡ before.files

-- nothing changes outside where nothing is refused
abbrev pub UnlessRefused : {A : Type 0} → Meant → (before after : Outside) → Result A Refusal → Type 0
UnlessRefused m before after (Ok x) = after ≡ before
UnlessRefused m before after (Err why) = IsRefusal m before after why

-- what was fetched and read is what the request names
pub record IsSupplied (r : Requested) (files : Option FileMap) (s : Supplied) : Type 0 where
  pub source : IsFetched files r.source source_bytes s.source
  pub program : IsProgram s.source s.program.tokens s.program.program
  pub input : IsInput files r.input s.input
  pub saved : IsSaved files r.load s.saved
  pub whole : IfSome s.saved IsWhole
