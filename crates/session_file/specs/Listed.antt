-- The lists of a session, item after item.
use Rattle.std.specs.Prelude.{if◌then◌else◌, ◌++◌, ◌+◌, ◌∷◌, [], ℕ, List, None, Option, Some, length, nat_lt}
use Rattle.std.specs.Prelude.{option_and_then, option_map}
use Rattle.serde_json.specs.{Data.Data, Data.Items, Find.as_array}
use Rattle.answer_book.specs.declared.entries.Judgement.{Judgement}
use Rattle.session_file.specs.{Limits.most_replies, Making.all_made}
use Rattle.session_file.specs.Reading.{entry_in, note_in, reply_in, with_kept, with_next}
use Rattle.session_file.specs.declared.{listed.Listed.Listed, replied.Answered.Answered}

-- ---- entries

-- the notes with the one of the entry of this number, if each is one
abbrev pub noted_on : Option (List (ℕ × List ℕ)) → (number : ℕ) → Data → Option (List (ℕ × List ℕ))
noted_on notes number d =
    option_and_then (λ notes. option_map (with_next notes number) (note_in d)) notes

-- no entries, and no notes
abbrev pub nothing_listed : Listed
nothing_listed = record { entries = []; notes = Some [] }

-- one entry more, if the value is one and there are fewer than 100,000
abbrev pub with_entry : Listed → Data → Option Listed
with_entry listed d =
    if nat_lt (length listed.entries) 100000 then option_map (λ entry. record {
      entries = listed.entries ++ entry ∷ [];
      notes = noted_on listed.notes (length listed.entries + 1) d;
    }) (entry_in d)
    else None

abbrev pub next_listed : Option Listed → Data → Option Listed
next_listed listed d = option_and_then (λ l. with_entry l d) listed

abbrev pub all_listed : Option Listed → Items → Option Listed
all_listed = all_made next_listed

-- the entries that a value is, if it is a list of entries
abbrev pub listed_in : Option Data → Option Listed
listed_in o = option_and_then (all_listed (Some nothing_listed)) (option_and_then as_array o)

-- ---- replies

-- no replies
abbrev pub nothing_answered : Answered
nothing_answered = record { count = 0; replies = [] }

-- one more, set after the others
abbrev pub with_one : Answered → List ℕ × Judgement → Answered
with_one answered kept = record { count = answered.count + 1; replies = with_kept answered.replies kept }

-- one value more, if it is a reply and there were fewer than `most_replies` values
abbrev pub with_answer : Answered → Data → Option Answered
with_answer answered d =
    if nat_lt answered.count most_replies then option_map (with_one answered) (reply_in d) else None

abbrev pub next_answered : Option Answered → Data → Option Answered
next_answered answered d = option_and_then (λ a. with_answer a d) answered

abbrev pub all_answered : Option Answered → Items → Option Answered
all_answered = all_made next_answered

abbrev pub answered_in : Option Data → Option Answered
answered_in o = option_and_then (all_answered (Some nothing_answered)) (option_and_then as_array o)
