-- The entries of a book, numbered from 1 in the order in which they were made, and which of them stand. An entry stands
-- until it is taken back, and taking back makes no entry.
use Rattle.std.specs.Prelude.{if◌then◌else◌, ◌++◌, ◌+◌, ◌-◌, ◌==◌, ◌∷◌, [], ℕ, Bool, List, None, Option, Some, false}
use Rattle.std.specs.{Prelude.length, Prelude.slice_get, Prelude.slice_set, Prelude.true, List.filter_map}
use Rattle.answer_book.specs.Numbers.{last_where, numbers_below}
use Rattle.answer_book.specs.declared.entries.{Entry.Entry, Judgement.TheVariants.Wrong}
use Rattle.answer_book.specs.declared.entries.What.{What, TheVariants.Judged}

-- a new entry that says this
abbrev pub entry_saying : What → Entry
entry_saying what = record { what = what; standing = true }

-- a program is debugged because its run was wrong: the first entry says so of call 0
abbrev pub first_entries : List Entry
first_entries = entry_saying (Judged 0 Wrong) ∷ []

-- the entry of this number, if it was made
abbrev pub entry_at : List Entry → ℕ → Option Entry
entry_at entries number = if number == 0 then None else slice_get entries (number - 1)

abbrev pub is_standing_entry : Option Entry → Bool
is_standing_entry None = false
is_standing_entry (Some entry) = entry.standing

-- whether the entry of this number was made and stands
abbrev pub is_standing : List Entry → ℕ → Bool
is_standing entries number = is_standing_entry (entry_at entries number)

-- the greatest number of an entry that stands
abbrev pub last_standing : List Entry → Option ℕ
last_standing entries = last_where (is_standing entries) (numbers_below (length entries + 1))

-- the entries with one more, which says this
abbrev pub entries_with : List Entry → What → List Entry
entries_with entries what = entries ++ entry_saying what ∷ []

abbrev pub with_taken_back : List Entry → ℕ → Option Entry → List Entry
with_taken_back entries place None = entries
with_taken_back entries place (Some entry) = slice_set entries place (record entry { standing = false })

-- the entries where the one of this number was taken back
abbrev pub entries_without : List Entry → ℕ → List Entry
entries_without entries number = with_taken_back entries (number - 1) (entry_at entries number)

-- what an entry says, while it stands
abbrev pub said_by : Entry → Option What
said_by entry = if entry.standing then Some entry.what else None

-- what the entries that stand say, first to last; the state of the search depends on nothing else of the entries
abbrev pub standing_answers : List Entry → List What
standing_answers entries = filter_map said_by entries
