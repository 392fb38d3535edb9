use Rattle.std.proofs.Common.{◌++◌, ◌+◌, ◌∙◌, ◌∷◌, [], List, ap, arith, length, sym}
use Rattle.std.proofs.lemmas.List.{length-take}
use Rattle.answer_book.specs.{Answers.Answers, Entries.entry_at, declared.entries.Entry.Entry}
use Rattle.dialog_replies.proofs.EntriesInTurn.{at_place, one_more}
use Rattle.dialog_replies.proofs.saving.entries_now.Goals as goal

pub push-requires : goal.push-requires
push-requires c =
    let taken = ap length c.places.invariant in
    omega (arith, length-take c.places.place c.args.debug.now.book.entries, c.places-test.true, c.entries-place-end.ensures.few)

pub places-preserved : goal.places-preserved
places-preserved c =
    let entries = c.args.debug.now.book.entries in
    let place = c.places.place in
    let entry = c.entry.result in
    let found = sym (ap (λ (b : Answers). entry_at b.entries (place + 1)) c.book-book.ensures) ∙ c.entry.ensures.found in
    c.in_ok-push.ensures.added ∙ ap (λ (l : List Entry). l ++ entry ∷ []) c.places.invariant
    ∙ sym (one_more entries place entry (at_place entries place entry found))
