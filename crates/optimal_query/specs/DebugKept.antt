-- How a search is kept: beside the calls a book, and the marks with their weights.
use Rattle.std.specs.Prelude.{◌<◌, ◌≡◌, [], length}
use Rattle.call_tree.specs.Recording.{Recording, depths_of, lasts_of, routines_of}
use Rattle.subtree_weights.specs.{RunColumns.columns_of, Weighed.Weighed}
use Rattle.answer_book.specs.{Answers.Answers, Entries.standing_answers, Marks.marks_of}
use Rattle.optimal_query.specs.{Search.Search, declared.search.Debug.TheInside.Inside}

abbrev pub search_of : Inside → Search
search_of kept = record {
  last = lasts_of kept.calls.now.calls;
  depth = depths_of kept.calls.now.calls;
  book = kept.book;
}

-- the calls were left, the book and the marks are theirs, and the marks are those of the answers that stand
pub record AreKept (run : Recording) (book : Answers) (weighed : Weighed) : Type 0 where
  pub some : 0 < length run.calls
  pub all_left : run.open_calls ≡ []
  pub routines : routines_of run.calls ≡ book.routine
  pub columns : columns_of run.calls ≡ weighed.columns
  pub marks : weighed.marks ≡ marks_of book.routine (standing_answers book.entries)

abbrev pub IsKept : Inside → Type 0
IsKept kept = AreKept kept.calls.now kept.book kept.markings
