-- A search as clauses see it: the last call of each call's subtree, the depth of each call, and the book, which has the
-- routine of each call.
use Rattle.std.specs.Prelude.{ℕ, List, Option}
use Rattle.call_tree.specs.{Recording.Recording, Recording.depths_of, Recording.lasts_of, declared.records.Mark.Mark}
use Rattle.answer_book.specs.{Accused.accused_of, Entries.first_entries, Entries.standing_answers, Marks.mark_of}
use Rattle.answer_book.specs.{Marks.marks_of, declared.entries.Entry.Entry, declared.entries.What.What}
use Rattle.answer_book.specs.Answers.{Answers, book_with, with_answer, without_answer}
use Rattle.optimal_query.specs.{Region.next_after, State.doubts_after, State.state_of}
use Rattle.optimal_query.specs.declared.state.SearchState.{SearchState}

pub record Search : Type 0 where
  pub last : List ℕ
  pub depth : List ℕ
  pub book : Answers

-- the search over a run with these entries
abbrev pub search_over : Recording → List Entry → Search
search_over run entries =
    record { last = lasts_of run.calls; depth = depths_of run.calls; book = book_with run entries }

-- the search over a run before anything is said
abbrev pub new_search : Recording → Search
new_search run = search_over run first_entries

-- the search with one more entry, which says this, and where the entry of this number was taken back
abbrev pub search_with : Search → What → Search
search_with search what = record search { book = with_answer search.book what }

abbrev pub search_without : Search → ℕ → Search
search_without search number = record search { book = without_answer search.book number }

-- what the entries that stand say; the marks, the state and the doubts depend on nothing else but the columns
abbrev pub answers_in : Search → List What
answers_in search = standing_answers search.book.entries

abbrev pub mark_now : Search → ℕ → Mark
mark_now search call = mark_of search.book.routine (answers_in search) call

abbrev pub marks_now : Search → List Mark
marks_now search = marks_of search.book.routine (answers_in search)

abbrev pub accused_now : Search → Option ℕ
accused_now search = accused_of search.book.routine (answers_in search)

abbrev pub state_now : Search → SearchState
state_now search = state_of search.last search.book.routine (answers_in search)

-- the least doubt, or the least one after the call that is given
abbrev pub next_doubt : Search → Option ℕ → Option ℕ
next_doubt search before = next_after (doubts_after search.last search.book.routine (answers_in search)) before
