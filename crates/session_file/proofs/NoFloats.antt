-- A session's value has no number but whole ones.
use Rattle.std.proofs.Common.{◌+◌, ◌∷◌, ◌≡◌, [], ℕ, Bool, List, None, Option, Some, false, map, refl}
use Rattle.serde_json.specs.{View.items_of, Written.has_float, Written.items_have_float}
use Rattle.answer_book.specs.declared.entries.{Entry.Entry, Judgement.Judgement, What.What, What.TheVariants.Judged, What.TheVariants.Trusted}
use Rattle.session_file.specs.{Notes.note_on, Text.entries_data, Text.reply_data, Text.said_data, Text.session_data, declared.session.Session.Session}

said_whole : (what : What) (note : Option (List ℕ)) (standing : Bool) → has_float (said_data what note standing) ≡ false
said_whole (Judged call judgement) None standing = refl
said_whole (Judged call judgement) (Some note) standing = refl
said_whole (Trusted routine) None standing = refl
said_whole (Trusted routine) (Some note) standing = refl

entries_whole : (notes : List (ℕ × List ℕ)) (number : ℕ) (entries : List Entry) → items_have_float (items_of (entries_data notes number entries)) ≡ false
entries_whole notes number [] = refl
entries_whole notes number (entry ∷ entries) =
    rw (said_whole entry.what (note_on notes number) entry.standing, entries_whole notes (number + 1) entries)

replies_whole : (replies : List (List ℕ × Judgement)) → items_have_float (items_of (map reply_data replies)) ≡ false
replies_whole [] = refl
replies_whole (kept ∷ replies) = replies_whole replies

pub session_whole : (s : Session) → has_float (session_data s) ≡ false
session_whole s = rw (entries_whole s.notes 1 s.entries, replies_whole s.replies)
