-- What a book holds: the calls that it is about, and the entries; and what it answers to a change.
use Rattle.std.specs.Prelude.{if◌then◌else◌, ◌++◌, ◌+◌, ◌∷◌, [], ℕ, Err, List, None, Ok, Option, Result, Some, length}
use Rattle.std.specs.Prelude.{nat_le}
use Rattle.call_tree.specs.Recording.{Recording, routines_of}
use Rattle.answer_book.specs.Entries.{entries_with, entries_without, first_entries, is_standing, last_standing}
use Rattle.answer_book.specs.declared.entries.{BookFault.BookFault, Entry.Entry, What.What}
use Rattle.answer_book.specs.declared.entries.BookFault.TheVariants as fault

-- the routine of each call, the number of routines, and the entries
pub record Answers : Type 0 where
  pub routine : List ℕ
  pub routines : ℕ
  pub entries : List Entry

-- the number of the next entry, if there is room for it: a book has room for 100,000 entries, counting those that were
-- taken back
abbrev pub next_number : List Entry → Result ℕ BookFault
next_number entries = if nat_le 100000 (length entries) then Err fault.Full else Ok (length entries + 1)

-- to a judgement on a call
abbrev pub judge_answer : Answers → ℕ → Result ℕ BookFault
judge_answer book call = if nat_le (length book.routine) call then Err (fault.NoCall call) else next_number book.entries

-- to trust in a routine
abbrev pub trust_answer : Answers → ℕ → Result ℕ BookFault
trust_answer book routine =
    if nat_le book.routines routine then Err (fault.NoRoutine routine) else next_number book.entries

-- to taking back the entry of this number
abbrev pub take_back_answer : Answers → ℕ → Result (Unit {0}) BookFault
take_back_answer book number = if is_standing book.entries number then Ok tt else Err (fault.NotStanding number)

abbrev pub number_or_fault : Option ℕ → Result ℕ BookFault
number_or_fault (Some number) = Ok number
number_or_fault None = Err fault.NothingStanding

-- to taking back the last entry that stands
abbrev pub take_back_last_answer : Answers → Result ℕ BookFault
take_back_last_answer book = number_or_fault (last_standing book.entries)

-- the book with one more entry, as one that stands or was taken back
abbrev pub with_entry : Answers → Entry → Answers
with_entry book entry = record book { entries = book.entries ++ entry ∷ [] }

-- the book with one more entry, which says this
abbrev pub with_answer : Answers → What → Answers
with_answer book what = record book { entries = entries_with book.entries what }

-- the book where the entry of this number was taken back
abbrev pub without_answer : Answers → ℕ → Answers
without_answer book number = record book { entries = entries_without book.entries number }

-- the book of a run with these entries
abbrev pub book_with : Recording → List Entry → Answers
book_with run entries = record { routine = routines_of run.calls; routines = run.routines; entries = entries }

-- the book of a run before anything is said
abbrev pub new_book : Recording → Answers
new_book run = book_with run first_entries
