-- The replies that are saved, one entry after another.
use Rattle.std.proofs.Common.{◌+◌, ◌∙◌, ◌≡◌, ℕ, List, Some, ap, drop, slice_get, sym}
use Rattle.answer_book.specs.declared.entries.Entry.{Entry}
use Rattle.dialog_replies.proofs.EntriesInTurn.{one_fewer}
use Rattle.dialog_replies.specs.{Said.KeptReplies, Said.with_entries, Said.with_entry, Subject.Subject}

-- one more was set
pub set_more : (s : Subject) (entries : List Entry) (place : ℕ) (entry : Entry) (replies new all : KeptReplies) → slice_get entries place ≡ Some entry
    → new ≡ with_entry s replies entry → with_entries s replies (drop place entries) ≡ all → with_entries s new (drop (place + 1) entries) ≡ all
set_more s entries place entry replies new all here is so_far =
    ap (λ (r : KeptReplies). with_entries s r (drop (place + 1) entries)) is
    ∙ sym (ap (λ (l : List Entry). with_entries s replies l) (one_fewer entries place entry here)) ∙ so_far
