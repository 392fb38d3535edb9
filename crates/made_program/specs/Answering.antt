-- How a search is answered with no one asked: one call is agreed on as the one at fault, a call is wrong if that one
-- stands in its subtree, and each question is answered so.
use Rattle.std.specs.Prelude.{if◌then◌else◌, ◌-◌, ◌/◌, ℕ, List, length, suc, zero}
use Rattle.subtree_weights.specs.Searched.{is_in}
use Rattle.answer_book.specs.Entries.{entries_with, first_entries}
use Rattle.answer_book.specs.declared.entries.{Entry.Entry, What.TheVariants.Judged}
use Rattle.answer_book.specs.declared.entries.Judgement.{Judgement, TheVariants.Right, TheVariants.Wrong}
use Rattle.optimal_query.specs.declared.state.SearchState.{SearchState, TheVariants.Ask}
use Rattle.dialog_replies.specs.Subject.{Subject, calls_recorded, state_after}

-- the call at fault: a third of the calls were entered before it
abbrev pub call_at_fault : Subject → ℕ
call_at_fault s = calls_recorded s / 3

-- what is said of a call
abbrev pub judgement_of : Subject → ℕ → Judgement
judgement_of s call = if is_in s.tree.last call (call_at_fault s) then Wrong else Right

-- the entries with an answer, where the state is a question
abbrev pub answered_to : Subject → List Entry → SearchState → List Entry
answered_to s entries (Ask call weight suspects left) = entries_with entries (Judged call (judgement_of s call))
answered_to s entries _ = entries

-- the entries once this many questions were answered, or all that were asked
unfoldable pub entries_answered : Subject → ℕ → List Entry
entries_answered s zero = first_entries
entries_answered s (suc n) = answered_to s (entries_answered s n) (state_after s (entries_answered s n))

-- for this many answers there is room in a book after its first entry
unfoldable pub most_answers : ℕ
most_answers = 99999

-- the entries in the end, and how many questions were answered
abbrev pub entries_at_end : Subject → List Entry
entries_at_end s = entries_answered s most_answers

abbrev pub questions_of : Subject → ℕ
questions_of s = length (entries_at_end s) - 1
