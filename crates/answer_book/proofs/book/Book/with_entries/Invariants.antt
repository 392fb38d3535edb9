use Rattle.std.proofs.Common.{◌≡◌, take}
use Rattle.answer_book.proofs.book.Book.with_entries.Given as goal
use Rattle.answer_book.specs.Answers.{book_with}

abbrev pub invariant-places : goal.invariant-places
invariant-places l = l.book ≡ book_with l.calls (take l.place l.entries)
