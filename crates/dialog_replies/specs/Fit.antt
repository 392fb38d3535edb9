-- Why a saved session does not fit a run, if it does not.
use Rattle.std.specs.Prelude.{if◌then◌else◌, ◌+◌, ◌==◌, ◌∷◌, [], ℕ, List, None, Option, Some, nat_lt, not}
use Rattle.std.specs.{Option.option_or, Str.bytes_eq}
use Rattle.answer_book.specs.declared.entries.Entry.{Entry}
use Rattle.answer_book.specs.declared.entries.What.{What, TheVariants.Judged, TheVariants.Trusted}
use Rattle.session_file.specs.declared.session.Session.{Session}
use Rattle.dialog_replies.specs.{Start.has_replies_alone, Subject.Subject, Subject.calls_recorded}
use Rattle.dialog_replies.specs.declared.{misfits.Misfit.Misfit, start.Start.Start}
use Rattle.dialog_replies.specs.declared.misfits.Misfit.TheVariants.{Budget, Call, Input, Routine, Source}

-- the entry of this number names a call or a routine that there is not
abbrev pub named_beyond : Subject → ℕ → What → Option Misfit
named_beyond s number (Judged call judgement) = if nat_lt call (calls_recorded s) then None else Some (Call number call)
named_beyond s number (Trusted routine) = if nat_lt routine s.routines then None else Some (Routine number routine)

-- the first such entry, where the first of these has this number; whether an entry stands says nothing
abbrev pub entries_misfit : Subject → ℕ → List Entry → Option Misfit
entries_misfit s number [] = None
entries_misfit s number (entry ∷ entries) =
    option_or (named_beyond s number entry.what) (entries_misfit s (number + 1) entries)

-- the first of these: another source, another input, another budget, an entry
abbrev pub session_misfit : Subject → Start → Session → Option Misfit
session_misfit s start session =
    if not (bytes_eq start.source session.source) then Some (Source start.source session.source)
    else if not (bytes_eq start.input session.input) then Some (Input start.input session.input)
    else if not (start.budget == session.budget) then Some (Budget start.budget session.budget)
    else entries_misfit s 1 session.entries

-- a session that gives its replies alone always fits: its entries are not looked at
abbrev pub saved_misfit : Subject → Start → Option Session → Option Misfit
saved_misfit s start None = None
saved_misfit s start (Some session) =
    if has_replies_alone start session then None else session_misfit s start session

-- why the saved session does not fit the run; none where it fits, or there is no saved session
unfoldable pub misfit : Subject → Start → Option Misfit
misfit s start = saved_misfit s start start.saved
