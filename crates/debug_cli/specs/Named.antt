-- What the words of the command name: files, as they were fetched, and what they are; or a made program.
use Rattle.std.specs.Prelude.{◌≡◌, ◌≤◌, ◌⊎◌, [], ℕ, Err, List, None, Ok, Option, Some, length, map}
use Rattle.std.specs.{String.string_bytes, declared.alloc.Global.Global, declared.string.String.String}
use Rattle.sha2.specs.Sha256.{sha256}
use Rattle.edge_ports.specs.Files.{FileMap, HoldsFile, HoldsLonger, LacksFile}
use Rattle.edge_ports.specs.declared.ports.FetchFault.{FetchFault}
use Rattle.pas_lexer.specs.{Lexed.Lexed, Limits.source_bytes}
use Rattle.core_program.specs.ProgramRows.{ProgramRows}
use Rattle.code_checker.specs.declared.faults.SourceRefusal.{SourceRefusal}
use Rattle.session_file.specs.Reading.{session_of}
use Rattle.session_file.specs.declared.session.{LoadFault.LoadFault, Session.Session}
use Rattle.dialog_replies.specs.{Subject.Subject, declared.start.Start.Start}
use Rattle.made_program.specs.{Lines.made_lines, Source.made_source}
use Rattle.debuggee.specs.{Execution.execution_of, Limits.input_bytes, Limits.most_steps, Subjects.subject_of}
use Rattle.debuggee.specs.Program.{IsProgram, NoProgram, Refuses}
use Rattle.debug_cli.specs.Limits.{session_bytes}
use Rattle.debug_cli.specs.Meaning.{Made, Meant, Requested, Source, meant}

-- the words of the command, the program's name first
abbrev pub Words : Type 0
Words = List (String Global)

-- what they mean, if anything
abbrev pub meaning : Words → Option Meant
meaning words = meant (map string_bytes words)

-- ---- files that were fetched

-- a file of this name, as it was fetched: where files are told it is the one of that name; and it is no longer than
-- this
abbrev pub IsFetched : Option FileMap → (name : List ℕ) → (limit : ℕ) → (bytes : List ℕ) → Type 0
IsFetched files name limit bytes = HoldsFile files name bytes × (length bytes ≤ limit)

-- the bytes of the input: those of the file that is named, and none where no file is named
abbrev pub IsInput : Option FileMap → (name : Option (List ℕ)) → (bytes : List ℕ) → Type 0
IsInput files None bytes = bytes ≡ []
IsInput files (Some name) bytes = IsFetched files name input_bytes bytes

-- the session that the file that is named is, and none where no file is named
abbrev pub IsSaved : Option FileMap → (name : Option (List ℕ)) → (saved : Option Session) → Type 0
IsSaved files None saved = saved ≡ None
IsSaved files (Some name) None = ⊥
IsSaved files (Some name) (Some session) =
    (bytes : List ℕ) × IsFetched files name session_bytes bytes × (session_of bytes ≡ Ok session)

-- the program that the source is
pub record Checked (r : Requested) (files : Option FileMap) : Type 0 where
  pub bytes : List ℕ
  pub fetched : IsFetched files r.source source_bytes bytes
  pub tokens : Lexed
  pub rows : ProgramRows
  pub program : IsProgram bytes tokens rows

-- that program, and its input
pub record Supplied (r : Requested) (files : Option FileMap) : Type 0 where
  pub source : Checked r files
  pub input : List ℕ
  pub is_input : IsInput files r.input input

-- both, and the saved session that is gone on with, if one is named
pub record Begun (r : Requested) (files : Option FileMap) : Type 0 where
  pub run : Supplied r files
  pub saved : Option Session
  pub is_saved : IsSaved files r.load saved

module _ {r : Requested} {files : Option FileMap} where
  -- what the dialog is about: the run of the program with its input and the budget that the words give
  abbrev pub subject_in : Begun r files → Subject
  subject_in b = subject_of (execution_of b.run.source.tokens b.run.source.rows
      (record { input = b.run.input; budget = r.budget }))

  -- what it starts with: the digests of the source and of the input, the budget, and the saved session
  abbrev pub start_in : Begun r files → Start
  start_in b = record {
    source = sha256 b.run.source.bytes;
    input = sha256 b.run.input;
    budget = r.budget;
    saved = b.saved;
  }

-- ---- made programs

-- the program that the made source of this number is
pub record MadeProgram (number : ℕ) : Type 0 where
  pub tokens : Lexed
  pub rows : ProgramRows
  pub program : IsProgram (made_source number) tokens rows

-- its lines: it is run with no input and all steps that a run may take, and its questions are answered with no one
-- asked
abbrev pub made_text : {number : ℕ} → MadeProgram number → List ℕ
made_text x = made_lines (subject_of (execution_of x.tokens x.rows (record { input = []; budget = most_steps })))

-- ---- what is refused

-- the bytes of the source that is meant: those of a file, as it was fetched, or those that are made
abbrev pub IsSource : Meant → Option FileMap → List ℕ → Type 0
IsSource (Source r) files bytes = IsFetched files r.source source_bytes bytes
IsSource (Made number) files bytes = bytes ≡ made_source number

-- a source that is no program, and why and where it is refused
pub record SourceRefused (m : Meant) (files : Option FileMap) : Type 0 where
  pub bytes : List ℕ
  pub source : IsSource m files bytes
  pub none : NoProgram bytes
  pub why : SourceRefusal
  pub line : ℕ
  pub byte : ℕ
  pub place : Refuses bytes why line byte

-- a file that is named as a session's and is none, where the source is a program and the input was fetched
pub record SessionRefused (r : Requested) (files : Option FileMap) : Type 0 where
  pub run : Supplied r files
  pub name : List ℕ
  pub named : r.load ≡ Some name
  pub bytes : List ℕ
  pub fetched : IsFetched files name session_bytes bytes
  pub why : LoadFault
  pub refused : session_of bytes ≡ Err why

-- a file by its name, and the most bytes that it may have
pub record FileSought : Type 0 where
  pub name : List ℕ
  pub limit : ℕ

-- the file of the source; of the input, once the source is a program; of a session, once the input was fetched
abbrev pub IsSought : Requested → Option FileMap → FileSought → Type 0
IsSought r files file =
    (file ≡ record { name = r.source; limit = source_bytes })
    ⊎ (Checked r files × (r.input ≡ Some file.name) × (file.limit ≡ input_bytes))
    ⊎ (Supplied r files × (r.load ≡ Some file.name) × (file.limit ≡ session_bytes))

-- why a file was not fetched: what is known of it, where files are told
abbrev pub IsFetchFault : FetchFault → FileSought → Option FileMap → Type 0
IsFetchFault FetchFault.Absent file files = LacksFile files file.name
IsFetchFault FetchFault.Failed file files = Unit {0}
IsFetchFault (FetchFault.TooLong limit) file files = HoldsLonger files file.name file.limit
IsFetchFault FetchFault.Memory file files = ⊥

-- a file that was not fetched
pub record NotFetched (r : Requested) (files : Option FileMap) : Type 0 where
  pub file : FileSought
  pub sought : IsSought r files file
  pub why : FetchFault
  pub cause : IsFetchFault why file files
