-- What was said so far in a session, and what is known from sessions before.
use Rattle.std.specs.Prelude.{if◌then◌else◌, ◌∷◌, [], ℕ, List, Option}
use Rattle.sha2.specs.Sha256.{sha256}
use Rattle.core_program.specs.ProgramRows.{ProgramRows}
use Rattle.answer_book.specs.declared.entries.{Entry.Entry, Judgement.Judgement}
use Rattle.answer_book.specs.declared.entries.What.{What, TheVariants.Judged, TheVariants.Trusted}
use Rattle.session_file.specs.Replies.{reply_to, with_reply}
use Rattle.dialog_replies.specs.Subject.{Subject}

-- replies to questions, each by the digest of the question's text
abbrev pub KeptReplies : Type 0
KeptReplies = List (List ℕ × Judgement)

-- the entries of the book, the notes on them, and the replies that the session was loaded with; these stay as they are
pub record Said : Type 0 where
  pub entries : List Entry
  pub notes : List (ℕ × List ℕ)
  pub replies : KeptReplies

-- what a dialog holds: what was said, and the right program that answers, if one was read
pub record Held : Type 0 where
  pub said : Said
  pub reference : Option ProgramRows

-- the digest of the question about a call, by which it is known again in another run
abbrev pub digest_on : Subject → (call : ℕ) → List ℕ
digest_on s call = sha256 (s.question call)

-- the reply among these to the question about a call
abbrev pub kept_on : Subject → KeptReplies → (call : ℕ) → Option Judgement
kept_on s replies call = reply_to replies (digest_on s call)

-- the replies with the judgement of an entry, if it judges and stands
abbrev pub with_said : Subject → KeptReplies → What → KeptReplies
with_said s replies (Judged call judgement) = with_reply replies (digest_on s call) judgement
with_said s replies (Trusted routine) = replies

abbrev pub with_entry : Subject → KeptReplies → Entry → KeptReplies
with_entry s replies entry = if entry.standing then with_said s replies entry.what else replies

-- the replies with one for each judgement that stands, in order of the entries
abbrev pub with_entries : Subject → KeptReplies → List Entry → KeptReplies
with_entries s replies [] = replies
with_entries s replies (entry ∷ entries) = with_entries s (with_entry s replies entry) entries

-- the replies that are saved
abbrev pub replies_now : Subject → Said → KeptReplies
replies_now s said = with_entries s said.replies said.entries
