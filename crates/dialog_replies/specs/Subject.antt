-- What a dialog is about, and the state of its search, from scratch: by the columns of a run and the entries of a book.
use Rattle.std.specs.Prelude.{ℕ, Bool, List, Option, find, length}
use Rattle.std.specs.Str.{str_eq_ignore_ascii_case}
use Rattle.core_program.specs.ProgramRows.{ProgramRows}
use Rattle.call_tree.specs.Recording.{Recording, lasts_of, parents_of, routines_of}
use Rattle.call_tree.specs.declared.records.Mark.{Mark}
use Rattle.answer_book.specs.{Answers.Answers, Entries.standing_answers, Marks.marks_of, Numbers.numbers_below}
use Rattle.answer_book.specs.declared.entries.Entry.{Entry}
use Rattle.optimal_query.specs.{Laws.CallTree, Laws.doubts_in, Laws.state_in, declared.state.SearchState.SearchState}
use Rattle.dialog_replies.specs.declared.{references.Referred.Referred, slices.SliceOf.SliceOf}

-- the columns of the calls of a run, how many routines the program has, and the name of each; the texts on each call:
-- its card, the question about it, which says neither its number nor the call that made it, the lines of its trace,
-- whether a cell has a name before or after it, and the lines on the cells of a name;
-- of which calls an output had a part in an output of a call, which has a name;
-- the least call that is alike to each, if there is not too much to compare; whether the record of a call may be put in
-- place of its run where another call was entered; what a right program says of a call; and the lines of all calls,
-- with a mark for each
pub record Subject : Type 0 where
  pub tree : CallTree
  pub routines : ℕ
  pub name : ℕ → List ℕ
  pub card : ℕ → List ℕ
  pub question : ℕ → List ℕ
  pub trace : ℕ → List ℕ
  pub has_cell : (call : ℕ) → (name : List ℕ) → Bool
  pub state : (call : ℕ) → (name : List ℕ) → List ℕ
  pub slice : (call : ℕ) → (name : List ℕ) → SliceOf (ℕ → Bool)
  pub classes : Option (List ℕ)
  pub carries : (call onto : ℕ) → Bool
  pub refer : (reference : ProgramRows) → (call : ℕ) → Referred
  pub marked : List Mark → List ℕ

-- the columns of a run
abbrev pub tree_of : Recording → CallTree
tree_of run = record { parent = parents_of run.calls; last = lasts_of run.calls; routine = routines_of run.calls }

-- how many calls there are
abbrev pub calls_recorded : Subject → ℕ
calls_recorded s = length s.tree.last

-- the state, the doubts and the marks of all calls in order of entry, by the entries that stand
abbrev pub state_after : Subject → List Entry → SearchState
state_after s entries = state_in s.tree (standing_answers entries)

abbrev pub doubts_after : Subject → List Entry → List ℕ
doubts_after s entries = doubts_in s.tree (standing_answers entries)

abbrev pub marks_after : Subject → List Entry → List Mark
marks_after s entries = marks_of s.tree.routine (standing_answers entries)

-- the book with these entries
abbrev pub book_of : Subject → List Entry → Answers
book_of s entries = record { routine = s.tree.routine; routines = s.routines; entries = entries }

-- the routine of least number with this name; letter case does not count (ISO 7185, 6.1.1)
abbrev pub routine_named : Subject → List ℕ → Option ℕ
routine_named s name = find (λ routine. str_eq_ignore_ascii_case (s.name routine) name) (numbers_below s.routines)
