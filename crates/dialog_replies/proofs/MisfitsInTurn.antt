-- The entries are looked at one by one.
use Rattle.std.proofs.Common.{◌+◌, ◌∙◌, ◌≡◌, ◌≤◌, ℕ, List, None, Option, Some, ap, drop, length, slice_get, sym}
use Rattle.std.{proofs.lemmas.List.drop_all, specs.Option.option_or}
use Rattle.answer_book.specs.declared.entries.Entry.{Entry}
use Rattle.dialog_replies.proofs.EntriesInTurn.{one_fewer}
use Rattle.dialog_replies.specs.{Fit.entries_misfit, Fit.named_beyond, Subject.Subject, declared.misfits.Misfit.Misfit}

here_first : (s : Subject) (entries : List Entry) (place : ℕ) (entry : Entry) (o : Option Misfit) → slice_get entries place ≡ Some entry
    → o ≡ named_beyond s (place + 1) entry.what
    → entries_misfit s (place + 1) (drop place entries) ≡ option_or o (entries_misfit s (place + 1 + 1) (drop (place + 1) entries))
here_first s entries place entry o here says =
    ap (entries_misfit s (place + 1)) (one_fewer entries place entry here)
    ∙ ap (λ x. option_or x (entries_misfit s (place + 1 + 1) (drop (place + 1) entries))) (sym says)

-- this one is out of range
pub found_here : (s : Subject) (entries : List Entry) (place : ℕ) (entry : Entry) (misfit : Misfit) → slice_get entries place ≡ Some entry
    → Some misfit ≡ named_beyond s (place + 1) entry.what → entries_misfit s (place + 1) (drop place entries) ≡ Some misfit
found_here s entries place entry misfit here says = here_first s entries place entry (Some misfit) here says

-- it is not
pub passed_here : (s : Subject) (entries : List Entry) (place : ℕ) (entry : Entry) → slice_get entries place ≡ Some entry
    → None ≡ named_beyond s (place + 1) entry.what
    → entries_misfit s (place + 1) (drop place entries) ≡ entries_misfit s (place + 1 + 1) (drop (place + 1) entries)
passed_here s entries place entry here says = here_first s entries place entry None here says

-- none is left
pub none_left : (s : Subject) (entries : List Entry) (place : ℕ) → length entries ≤ place → entries_misfit s (place + 1) (drop place entries) ≡ None
none_left s entries place all = ap (entries_misfit s (place + 1)) (drop_all place entries all)
