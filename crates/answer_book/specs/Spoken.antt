-- What one entry says of a call or a routine, while it stands.
use Rattle.std.specs.Prelude.{if◌then◌else◌, ◌&&◌, ℕ, Bool, None, Option}
use Rattle.answer_book.specs.Marks.{judgement_on, trusts}
use Rattle.answer_book.specs.declared.entries.{Entry.Entry, Judgement.Judgement}

-- the judgement that it gives on the call
abbrev pub entry_judgement : ℕ → Entry → Option Judgement
entry_judgement call entry = if entry.standing then judgement_on call entry.what else None

-- whether it trusts the routine
abbrev pub entry_trusts : ℕ → Entry → Bool
entry_trusts routine entry = entry.standing && trusts routine entry.what
