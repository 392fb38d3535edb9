-- Judgements on alike calls that are taken back.
use Rattle.std.specs.Prelude.{ℕ, Err, List, Ok, Result, fold}
use Rattle.answer_book.specs.Entries.{entries_without}
use Rattle.answer_book.specs.declared.entries.{BookFault.BookFault, Entry.Entry}

-- the entries after those with these numbers were taken back, if they were
abbrev pub entries_without_all : List Entry → (numbers : List ℕ) → Result ℕ BookFault → List Entry
entries_without_all entries numbers (Ok taken) = fold entries_without entries numbers
entries_without_all entries numbers (Err fault) = entries
