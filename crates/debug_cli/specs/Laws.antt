-- What holds of each source and of each run.
use Rattle.std.specs.Prelude.{◌≡◌, ℕ, List, Option, length}
use Rattle.edge_ports.specs.{Files.FileMap, Lines.lines_of}
use Rattle.pas_lexer.specs.Lexed.{Lexed}
use Rattle.core_program.specs.ProgramRows.{ProgramRows}
use Rattle.dialog_replies.specs.{Subject.Subject, declared.references.Reading.Reading, declared.start.Start.Start}
use Rattle.ask_session.specs.Dialog.{Granted, fetched_among, saves_among, transcript}
use Rattle.ask_session.specs.Wishes.{AreReadIn, FilesAfter, wishes_in}
use Rattle.debuggee.specs.{Program.IsProgram, References.IsReading, Subjects.subject_of}
use Rattle.debuggee.specs.Execution.{Supply, execution_of}

-- a source is one program at most, and has one run with each input and budget
abbrev pub OneRun : Type 0
OneRun =
    (source : List ℕ) (t t' : Lexed) (p p' : ProgramRows) → IsProgram source t p → IsProgram source t' p'
    → (s : Supply) → execution_of t p s ≡ execution_of t' p' s

-- bytes that are fetched as a right program are read as one thing: as one program; or as none, and then for one reason
-- at one place
abbrev pub OneReading : Type 0
OneReading = (bytes : List ℕ) (x y : Reading ProgramRows) → IsReading bytes x → IsReading bytes y → x ≡ y

-- Each line of a console that asks the keeper was given what it asks for, with files that go from line to line; and
-- bytes that were fetched were read as what they are.
pub record AllAnswered (s : Subject) (start : Start) (console : List ℕ) (granted : List Granted) : Type 0 where
  pub before : Option FileMap
  pub after : Option FileMap
  pub files : FilesAfter granted (wishes_in s start granted (lines_of console)) before after
  pub each : length granted ≡ length (wishes_in s start granted (lines_of console))
  pub read : AreReadIn IsReading granted

-- What is printed then follows from two lists: whether each file was stored, and what was fetched, bytes or nothing.
abbrev pub OneTranscript : Type 0
OneTranscript =
    (s : Subject) (start : Start) (console : List ℕ) (a b : List Granted)
    → AllAnswered s start console a → AllAnswered s start console b
    → saves_among a ≡ saves_among b → fetched_among a ≡ fetched_among b
    → transcript s start a console ≡ transcript s start b console

-- it holds of a dialog on the run of each program, with each input and budget
abbrev pub InEachRun : (Subject → Type 0) → Type 0
InEachRun holds = (t : Lexed) (p : ProgramRows) (s : Supply) → holds (subject_of (execution_of t p s))
