-- Entries and replies, written one after another.
use Rattle.std.proofs.Common.{◌++◌, ◌+◌, ◌∙◌, ◌∷◌, ◌≡◌, ◌≤◌, [], ℕ, List, Some, ap, append-nil, drop, length, map, refl, slice_get, sym}
use Rattle.std.proofs.lemmas.List.{drop_all}
use Rattle.serde_json.specs.{View.view, declared.value.Value.Value}
use Rattle.answer_book.specs.declared.entries.{Entry.Entry, Judgement.Judgement}
use Rattle.session_file.proofs.{RepliesInOrder.one_fewer, Turns.made_next}
use Rattle.session_file.specs.{Notes.note_on, Text.entries_data, Text.entry_data, Text.reply_data}

-- these are the values of the entries before a place
pub record AreMade (notes : List (ℕ × List ℕ)) (entries : List Entry) (place : ℕ) (values : List Value) : Type 0 where
  pub rest : map view values ++ entries_data notes (place + 1) (drop place entries) ≡ entries_data notes 1 entries

pub none_made : (notes : List (ℕ × List ℕ)) (entries : List Entry) → AreMade notes entries 0 []
none_made notes entries = record { rest = refl }

pub one_made : (notes : List (ℕ × List ℕ)) (entries : List Entry) (place : ℕ) (entry : Entry) (values new : List Value) (value : Value)
    → slice_get entries place ≡ Some entry → view value ≡ entry_data entry (note_on notes (place + 1)) → new ≡ values ++ value ∷ []
    → AreMade notes entries place values → AreMade notes entries (place + 1) new
one_made notes entries place entry values new value here made is are =
    let left = entries_data notes (place + 1 + 1) (drop (place + 1) entries) in
    record {
      rest = ap (λ (l : List Value). map view l ++ left) is ∙ made_next view values value (entry_data entry (note_on notes (place + 1))) left made
          ∙ ap (λ (l : List Entry). map view values ++ entries_data notes (place + 1) l) (sym (one_fewer entries place entry here)) ∙ are.rest;
    }

pub all_made : (notes : List (ℕ × List ℕ)) (entries : List Entry) (place : ℕ) (values : List Value) → length entries ≤ place
    → AreMade notes entries place values → map view values ≡ entries_data notes 1 entries
all_made notes entries place values all are =
    sym (append-nil (map view values))
    ∙ ap (λ (l : List Entry). map view values ++ entries_data notes (place + 1) l) (sym (drop_all place entries all)) ∙ are.rest

pub ruleset entries_in_order = (none_made, one_made, all_made)

-- these are the values of the replies before a place
pub record AreWritten (replies : List (List ℕ × Judgement)) (place : ℕ) (values : List Value) : Type 0 where
  pub rest : map view values ++ map reply_data (drop place replies) ≡ map reply_data replies

pub none_written : (replies : List (List ℕ × Judgement)) → AreWritten replies 0 []
none_written replies = record { rest = refl }

pub one_written : (replies : List (List ℕ × Judgement)) (place : ℕ) (kept : List ℕ × Judgement) (values new : List Value) (value : Value)
    → slice_get replies place ≡ Some kept → view value ≡ reply_data kept → new ≡ values ++ value ∷ [] → AreWritten replies place values
    → AreWritten replies (place + 1) new
one_written replies place kept values new value here made is are =
    let left = map reply_data (drop (place + 1) replies) in
    record {
      rest = ap (λ (l : List Value). map view l ++ left) is ∙ made_next view values value (reply_data kept) left made
          ∙ ap (λ (l : List (List ℕ × Judgement)). map view values ++ map reply_data l) (sym (one_fewer replies place kept here)) ∙ are.rest;
    }

pub all_written : (replies : List (List ℕ × Judgement)) (place : ℕ) (values : List Value) → length replies ≤ place → AreWritten replies place values
    → map view values ≡ map reply_data replies
all_written replies place values all are =
    sym (append-nil (map view values))
    ∙ ap (λ (l : List (List ℕ × Judgement)). map view values ++ map reply_data l) (sym (drop_all place replies all)) ∙ are.rest

pub ruleset replies_in_order = (none_written, one_written, all_written)
