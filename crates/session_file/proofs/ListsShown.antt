-- An entry or a reply more is the same by the fields that are kept of its value.
use Rattle.std.proofs.Common.{if◌then◌else◌, ◌++◌, ◌+◌, ◌∙◌, ◌∷◌, ◌≡◌, [], ℕ, List, None, Option, Some, ap, false, length, nat_lt, option_and_then, option_map}
use Rattle.std.proofs.Common.{refl, sym, true≢false}
use Rattle.json.specs.Token.{Token}
use Rattle.serde_json.specs.Data.{Data, array, boolean, null, number, object, string}
use Rattle.serde_json.specs.Find.{as_array}
use Rattle.answer_book.specs.declared.entries.Entry.{Entry}
use Rattle.session_file.proofs.FieldsShown.{entry_shown, note_shown, reply_shown}
use Rattle.session_file.specs.{Limits.most_replies, Listed.next_answered, Listed.next_listed, Listed.with_one, Passing.Begins, Reading.entry_in}
use Rattle.session_file.specs.{Reading.note_in, Reading.with_next, Shown.ShowsValue, Shown.is_list_opening}
use Rattle.session_file.specs.declared.{listed.Listed.Listed, replied.Answered.Answered}

abbrev with_parts : Listed → Option Entry → Option (Option (List ℕ)) → Option Listed
with_parts l e m =
    if nat_lt (length l.entries) 100000 then option_map (λ entry. record {
      entries = l.entries ++ entry ∷ [];
      notes = option_and_then (λ notes. option_map (with_next notes (length l.entries + 1)) m) l.notes;
    }) e
    else None

pub listed_shown : (shown d : Data) → ShowsValue shown d → (o : Option Listed) → next_listed o shown ≡ next_listed o d
listed_shown shown d s None = refl
listed_shown shown d s (Some l) =
    ap (λ e. with_parts l e (note_in shown)) (entry_shown shown d s) ∙ ap (with_parts l (entry_in d)) (note_shown shown d s)

pub answered_shown : (shown d : Data) → ShowsValue shown d → (o : Option Answered) → next_answered o shown ≡ next_answered o d
answered_shown shown d s None = refl
answered_shown shown d s (Some a) =
    ap (λ r. if nat_lt a.count most_replies then option_map (with_one a) r else None) (reply_shown shown d s)

-- a value that does not begin as a list is none
pub no_list : (t : Token) (d : Data) → Begins t d → is_list_opening t ≡ false → as_array d ≡ None
no_list t null b e = refl
no_list t (boolean x) b e = refl
no_list t (number n) b e = refl
no_list t (string s) b e = refl
no_list t (array ds) b e = absurd (true≢false (sym (ap is_list_opening b) ∙ e))
no_list t (object ms) b e = refl
