-- What the command does, by the status that it ends with.
use Rattle.std.specs.Prelude.{◌≡◌, ◌⊎◌, ℕ, Err, List, None, Option, Some}
use Rattle.edge_ports.specs.{Counts.CountsFetch, Told.GaveAll, Told.GavePrefix}
use Rattle.core_program.specs.WholeTables.{WholeTables}
use Rattle.ask_session.specs.{Outside.Outside, Went.Went, declared.dialog.Ending.Ending}
use Rattle.debuggee.specs.References.{IsReading}
use Rattle.debug_cli.specs.{Meaning.Made, Meaning.Meant, Meaning.Source, Named.subject_in, Outside.CountsOneFault}
use Rattle.debug_cli.specs.{Outside.LeavesAlone, declared.status.Status.Status}
use Rattle.debug_cli.specs.Named.{Begun, MadeProgram, NotFetched, SessionRefused, SourceRefused, made_text, start_in}
use Rattle.debug_cli.specs.Texts.{file_line, refused_line, session_line, usage_line}

-- What is said where no session is held, by what the words mean and by the status, and what the keeper's counts are
-- then: words, sources, files and sessions are refused by one line; of a made program its lines are given.
abbrev pub Owes : Option Meant → (before after : Outside) → Status → (text : List ℕ) → Type 0
Owes None before after Status.Words text = (text ≡ usage_line) × (after.counts ≡ before.counts)
Owes (Some m) before after Status.Source text =
    (x : SourceRefused m before.files) × (text ≡ refused_line x.why x.line x.byte) × (after.counts ≡ before.counts)
Owes (Some (Source r)) before after Status.File text =
    (x : NotFetched r before.files) × (text ≡ file_line x.why x.file.name)
    × CountsFetch (Err x.why) before.counts after.counts
Owes (Some (Source r)) before after Status.Session text =
    (x : SessionRefused r before.files) × (text ≡ session_line x.why) × (after.counts ≡ before.counts)
Owes (Some (Made number)) before after Status.Done text =
    (x : MadeProgram number) × (text ≡ made_text x) × (after.counts ≡ before.counts)
Owes m before after s text = ⊥

-- it is given whole
pub record Says (m : Option Meant) (before after : Outside) (s : Status) : Type 0 where
  pub text : List ℕ
  pub owed : Owes m before after s text
  pub gave : GaveAll before.streams.given after.streams.given text
  pub alone : LeavesAlone before after

-- a first part of it is given, and then the screen fails
pub record SaysPart (m : Option Meant) (before after : Outside) : Type 0 where
  pub wanted : Status
  pub text : List ℕ
  pub owed : Owes m before after wanted text
  pub gave : GavePrefix before.streams.given after.streams.given text
  pub alone : LeavesAlone before after

-- memory runs out before anything is given
pub record SaysNothing (before after : Outside) : Type 0 where
  pub given : after.streams.given ≡ before.streams.given
  pub counts : CountsOneFault before.counts after.counts
  pub alone : LeavesAlone before after

-- a session is held about the run of the source that is meant, whose program has whole tables, and ends so
abbrev pub Talks : Option Meant → (before after : Outside) → Ending → Type 0
Talks (Some (Source r)) before after e =
    (b : Begun r before.files) × Went IsReading (subject_in b) (start_in b) before e after
    × WholeTables b.run.source.rows
Talks m before after e = ⊥

-- by the status: why it comes, what the screen gets, and what becomes of the files and of the keeper's counts
abbrev pub Goes : Option Meant → (before after : Outside) → Status → Type 0
Goes m before after Status.Done = Says m before after Status.Done ⊎ Talks m before after Ending.Done
Goes m before after Status.Words = Says m before after Status.Words
Goes m before after Status.Source = Says m before after Status.Source
Goes m before after Status.File = Says m before after Status.File
Goes m before after Status.Console = Talks m before after Ending.Console
Goes m before after Status.Screen = SaysPart m before after ⊎ Talks m before after Ending.Screen
Goes m before after Status.Memory = SaysNothing before after ⊎ Talks m before after Ending.Memory
Goes m before after Status.Session = Says m before after Status.Session ⊎ Talks m before after Ending.Refused
Goes m before after Status.Spent = Talks m before after Ending.Spent

-- the same, as a record
pub record HasGone (m : Option Meant) (before after : Outside) (s : Status) : Type 0 where
  pub goes : Goes m before after s
