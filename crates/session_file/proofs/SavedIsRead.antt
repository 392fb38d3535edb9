-- The session that is read of what is saved is the one that was saved.
use Rattle.std.proofs.Common.{◌+◌, ◌^◌, ◌∷◌, ◌≡◌, [], ℕ, All, Bool, List, None, Ok, Option, Some, ap, arith, le-leb, length, lt-ltb, map, refl, suc}
use Rattle.std.{proofs.lemmas.List.Elements.All-tail, proofs.lemmas.Str.is_utf8-from_IsUtf8, specs.List.IsDistinct, specs.List.Sorted.IsStrictlySortedBy}
use Rattle.serde_json.specs.{Events.items_len, View.items_of}
use Rattle.answer_book.specs.declared.entries.{Entry.Entry, What.What, What.TheVariants.Judged, What.TheVariants.Trusted}
use Rattle.answer_book.specs.declared.entries.Judgement.{Judgement, TheVariants.Right, TheVariants.Unknown, TheVariants.Wrong}
use Rattle.session_file.proofs.{NotesRead.notes_read, RepliesRead.digest_read, RepliesRead.replies_read, SavedIsJson.first_json, SavedIsJson.saved_json}
use Rattle.session_file.proofs.SavedIsUtf8.{each_noted, first_text_utf8, saved_utf8}
use Rattle.session_file.specs.{Limits.most_replies, Notes.AreNotes, Notes.note_on, Replies.AreReplies, declared.session.Session.Session}
use Rattle.session_file.specs.Reading.{entries_in, entry_in, session_in, session_of}
use Rattle.session_file.specs.Text.{entries_data, first_data, first_text, reply_data, said_data, session_data, session_text}
use Rattle.session_file.specs.Whole.{IsWhole, NumberFits, in_first_version, in_this_version}

said_read : (what : What) (note : Option (List ℕ)) (standing : Bool) → NumberFits what
    → entry_in (said_data what note standing) ≡ Some (record { what = what; standing = standing })
said_read (Judged call Right) None standing small = rw (lt-ltb call (2 ^ 32) small)
said_read (Judged call Right) (Some note) standing small = rw (lt-ltb call (2 ^ 32) small)
said_read (Judged call Wrong) None standing small = rw (lt-ltb call (2 ^ 32) small)
said_read (Judged call Wrong) (Some note) standing small = rw (lt-ltb call (2 ^ 32) small)
said_read (Judged call Unknown) None standing small = rw (lt-ltb call (2 ^ 32) small)
said_read (Judged call Unknown) (Some note) standing small = rw (lt-ltb call (2 ^ 32) small)
said_read (Trusted routine) None standing small = rw (lt-ltb routine (2 ^ 32) small)
said_read (Trusted routine) (Some note) standing small = rw (lt-ltb routine (2 ^ 32) small)

entries_read : (notes : List (ℕ × List ℕ)) (number : ℕ) (entries : List Entry) → All (λ entry. NumberFits entry.what) entries
    → entries_in (items_of (entries_data notes number entries)) ≡ Some entries
entries_read notes number [] small = refl
entries_read notes number (entry ∷ entries) small = rw (
  said_read entry.what (note_on notes number) entry.standing (small 0 entry (omega arith)),
  entries_read notes (number + 1) entries (All-tail (λ e. NumberFits e.what) entry entries small),
)

entries_count : (notes : List (ℕ × List ℕ)) (number : ℕ) (entries : List Entry) → items_len (items_of (entries_data notes number entries)) ≡ length entries
entries_count notes number [] = refl
entries_count notes number (entry ∷ entries) = ap suc (entries_count notes (number + 1) entries)

replies_count : (replies : List (List ℕ × Judgement)) → items_len (items_of (map reply_data replies)) ≡ length replies
replies_count [] = refl
replies_count (kept ∷ replies) = ap suc (replies_count replies)

session_read : (s : Session) → IsWhole s → session_in (session_data s) ≡ Ok (in_this_version s)
session_read s w = rw (
  digest_read s.source w.source,
  digest_read s.input w.input,
  le-leb 1 s.budget w.steps,
  le-leb s.budget 4000000 w.budget,
  entries_count s.notes 1 s.entries,
  le-leb 1 (length s.entries) w.some,
  le-leb (length s.entries) 100000 w.few,
  entries_read s.notes 1 s.entries w.numbered,
  w.first,
  notes_read s.notes s.entries w.noted (each_noted s w) w.on_entries,
  replies_count s.replies,
  le-leb (length s.replies) most_replies w.replied.few,
  replies_read s.replies w.replied w.questions,
)

first_read : (s : Session) → IsWhole s → session_in (first_data s) ≡ Ok (in_first_version s)
first_read s w = rw (
  digest_read s.source w.source,
  digest_read s.input w.input,
  le-leb 1 s.budget w.steps,
  le-leb s.budget 4000000 w.budget,
  entries_count [] 1 s.entries,
  le-leb 1 (length s.entries) w.some,
  le-leb (length s.entries) 100000 w.few,
  entries_read [] 1 s.entries w.numbered,
  w.first,
)

no_notes : AreNotes []
unfolding IsStrictlySortedBy
no_notes = record {
  first = λ i d h. absurd (omega (arith, h));
  last = λ i d h. absurd (omega (arith, h));
  each = λ i d h. absurd (omega (arith, h));
  rising = tt;
}

no_replies : AreReplies []
unfolding IsDistinct
no_replies = record { few = omega arith; different = tt }

-- what version 1 has of a session is within its limits as well
first_whole : (s : Session) → IsWhole s → IsWhole (in_first_version s)
first_whole s w = record {
  source = w.source;
  input = w.input;
  steps = w.steps;
  budget = w.budget;
  some = w.some;
  few = w.few;
  first = w.first;
  numbered = w.numbered;
  noted = no_notes;
  on_entries = λ i d h. absurd (omega (arith, h));
  replied = no_replies;
  questions = λ i d h. absurd (omega (arith, h));
}

-- the laws
pub saved_read : (s : Session) → IsWhole s → session_of (session_text s) ≡ Ok (in_this_version s)
unfolding session_of
saved_read s w = rw (is_utf8-from_IsUtf8 (session_text s) (saved_utf8 s w), saved_json s w) (session_read s w)

pub older_read : (s : Session) → IsWhole s → session_of (first_text s) ≡ Ok (in_first_version s)
unfolding session_of
older_read s w = rw (is_utf8-from_IsUtf8 (first_text s) (first_text_utf8 s w), first_json s w) (first_read s w)

pub older_saved : (s : Session) → IsWhole s → session_of (session_text (in_first_version s)) ≡ Ok (in_this_version (in_first_version s))
older_saved s w = saved_read (in_first_version s) (first_whole s w)
