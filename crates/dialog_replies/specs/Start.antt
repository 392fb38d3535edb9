-- What a dialog starts with, and what it saves.
use Rattle.std.specs.Prelude.{if◌then◌else◌, ◌&&◌, ◌==◌, [], ℕ, Bool, IfSome, List, None, Option, Some, false, not}
use Rattle.std.specs.Str.{bytes_eq}
use Rattle.answer_book.specs.Entries.{first_entries}
use Rattle.session_file.specs.{Whole.IsDigest, Whole.IsWhole, declared.session.Session.Session}
use Rattle.session_file.specs.Text.{first_version, session_text, this_version}
use Rattle.dialog_replies.specs.{Said.Said, Said.replies_now, Subject.Subject, declared.start.Start.Start}

-- two digests, and a saved session as one is loaded, if there is one
pub record IsWholeStart (start : Start) : Type 0 where
  pub source : IsDigest start.source
  pub input : IsDigest start.input
  pub saved : IfSome start.saved IsWhole

-- a session is of this run
abbrev pub is_of_run : Start → Session → Bool
is_of_run start session =
    bytes_eq start.source session.source && bytes_eq start.input session.input && (start.budget == session.budget)

-- a session of another run gives its replies alone, unless it is one of version 1, which has none
abbrev pub has_replies_alone : Start → Session → Bool
has_replies_alone start session = not (session.version == first_version) && not (is_of_run start session)

abbrev pub saved_replies_alone : Start → Option Session → Bool
saved_replies_alone start (Some session) = has_replies_alone start session
saved_replies_alone start None = false

abbrev pub gives_replies_alone : Start → Bool
gives_replies_alone start = saved_replies_alone start start.saved

-- what was said where a dialog begins: what a saved session has, or its replies alone, and else the first entry
abbrev pub said_in : Start → Session → Said
said_in start session =
    if has_replies_alone start session then record { entries = first_entries; notes = []; replies = session.replies }
    else record { entries = session.entries; notes = session.notes; replies = session.replies }

abbrev pub said_saved : Start → Option Session → Said
said_saved start (Some session) = said_in start session
said_saved start None = record { entries = first_entries; notes = []; replies = [] }

abbrev pub said_at_start : Start → Said
said_at_start start = said_saved start start.saved

-- the session of this run of that moment: its entries, the notes on them, and the replies with one for each judgement
-- that stands
abbrev pub session_with : Subject → Start → Said → Session
session_with s start said = record {
  version = this_version;
  source = start.source;
  input = start.input;
  budget = start.budget;
  entries = said.entries;
  notes = said.notes;
  replies = replies_now s said;
}

-- and its text
abbrev pub saved_text : Subject → Start → Said → List ℕ
saved_text s start said = session_text (session_with s start said)
