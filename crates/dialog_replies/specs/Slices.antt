-- A wrong output of a call: which calls below had no part in it, and what is then said of them.
use Rattle.std.specs.Prelude.{if◌then◌else◌, ◌&&◌, ◌+◌, ◌-◌, ◌∷◌, [], ℕ, Bool, Err, List, Ok, Option, Result, Some}
use Rattle.std.specs.Prelude.{false, filter, length, map, nat_le, not, slice_get, slice_index}
use Rattle.std.specs.List.{range_with_len}
use Rattle.call_tree.specs.Clear.{is_unjudged}
use Rattle.answer_book.specs.Entries.{entries_with}
use Rattle.answer_book.specs.declared.entries.{Entry.Entry, What.What, What.TheVariants.Judged}
use Rattle.answer_book.specs.declared.entries.BookFault.{BookFault, TheVariants.Full}
use Rattle.answer_book.specs.declared.entries.Judgement.TheVariants.{Right, Wrong}
use Rattle.optimal_query.specs.Laws.{mark_in}
use Rattle.dialog_replies.specs.Subject.{Subject}

-- a call whose parent is this one has no output in a slice that has one of the parent
abbrev pub only_parent_in : (in_slice : ℕ → Bool) → (call : ℕ) → Option (Option ℕ) → Bool
only_parent_in in_slice call (Some (Some parent)) = in_slice parent && not (in_slice call)
only_parent_in in_slice call o = false

-- Whether a call is left out of the search after these answers: nothing is said of it, and the slice has no output of
-- it, but one of the call that made it.
abbrev pub has_no_part : Subject → (answers : List What) → (in_slice : ℕ → Bool) → (call : ℕ) → Bool
has_no_part s answers in_slice call =
    only_parent_in in_slice call (slice_get s.tree.parent call)
    && is_unjudged (mark_in s.tree answers call)

-- those below a call, rising
abbrev pub without_part : Subject → (answers : List What) → (in_slice : ℕ → Bool) → (call : ℕ) → List ℕ
without_part s answers in_slice call =
    filter (has_no_part s answers in_slice) (range_with_len (call + 1) (slice_index s.tree.last call - call))

-- what is said where an output of a call is wrong: the call is wrong, and those without a part in it are right
abbrev pub slice_answers : Subject → (answers : List What) → (in_slice : ℕ → Bool) → (call : ℕ) → List What
slice_answers s answers in_slice call =
    Judged call Wrong ∷ map (λ other. Judged other Right) (without_part s answers in_slice call)

-- the entries with one more for each of these
abbrev pub entries_with_all : List Entry → List What → List Entry
entries_with_all entries [] = entries
entries_with_all entries (what ∷ whats) = entries_with_all (entries_with entries what) whats

-- The numbers of the first entry and of the last one, if there is room for an entry for each of these. A book has room
-- for 100,000 entries, counting those that were taken back.
abbrev pub all_answer : List Entry → List What → Result (ℕ × ℕ) BookFault
all_answer entries whats =
    if nat_le (length entries + length whats) 100000 then Ok (length entries + 1, length entries + length whats)
    else Err Full

-- the entries after that answer
abbrev pub entries_after_all : List Entry → List What → Result (ℕ × ℕ) BookFault → List Entry
entries_after_all entries whats (Ok numbers) = entries_with_all entries whats
entries_after_all entries whats (Err fault) = entries
