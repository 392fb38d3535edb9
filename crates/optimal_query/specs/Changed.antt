-- What an entry changes, and what its change costs.
use Rattle.std.specs.Prelude.{if◌then◌else◌, ◌*◌, ◌+◌, ◌<◌, ◌==◌, ◌≡◌, ◌≢◌, ℕ, Bool, List, None, Option, Some, length}
use Rattle.std.specs.Prelude.{nat_le, slice_index, slice_set, sum_by}
use Rattle.call_tree.specs.declared.records.Mark.{Mark}
use Rattle.subtree_weights.specs.Searched.{mark_at}
use Rattle.answer_book.specs.{Answers.Answers, Marks.mark_of, Marks.marks_of, Numbers.numbers_below}
use Rattle.answer_book.specs.Entries.{entry_at, entry_saying, standing_answers}
use Rattle.answer_book.specs.declared.entries.{Entry.Entry, Judgement.Judgement}
use Rattle.answer_book.specs.declared.entries.What.{What, TheVariants.Judged, TheVariants.Trusted}
use Rattle.optimal_query.specs.Search.{Search, mark_now, search_without}

-- a judgement changes no mark but that of its call
pub record ChangesOne (book : Answers) (marks : List Mark) (call : ℕ) : Type 0 where
  pub a_call : call < length book.routine
  pub others_stay : slice_set marks call (mark_of book.routine (standing_answers book.entries) call)
      ≡ marks_of book.routine (standing_answers book.entries)

-- and trust no mark but those of the calls of its routine
pub record ChangesCallsOf (book : Answers) (marks : List Mark) (routine : ℕ) : Type 0 where
  pub each : length marks ≡ length book.routine
  pub others_stay : (call : ℕ) → call < length book.routine → slice_index book.routine call ≢ routine
      → mark_at marks call ≡ mark_of book.routine (standing_answers book.entries) call

-- these were the marks before an entry that says this was made or taken back
abbrev pub WereMarks : Answers → List Mark → What → Type 0
WereMarks book marks (Judged call judgement) = ChangesOne book marks call
WereMarks book marks (Trusted routine) = ChangesCallsOf book marks routine

-- the call that such an entry judges had the mark before that it has now
abbrev pub HadItsMark : Answers → List Mark → What → Type 0
HadItsMark book marks (Judged call judgement) =
    mark_at marks call ≡ mark_of book.routine (standing_answers book.entries) call
HadItsMark book marks (Trusted routine) = ⊥

-- the entry of this number judges a call of which the mark stays when the entry is taken back
pub record MarkStays (search : Search) (number : ℕ) : Type 0 where
  pub call : ℕ
  pub judgement : Judgement
  pub judged : entry_at search.book.entries number ≡ Some (entry_saying (Judged call judgement))
  pub same : mark_now (search_without search number) call ≡ mark_now search call

-- a call of the routine counts with the calls above it, of which there are as many as it is deep; any other call
-- counts nothing
abbrev pub way_up : List ℕ → List ℕ → ℕ → ℕ → ℕ
way_up depth routine wanted call = if slice_index routine call == wanted then slice_index depth call + 1 else 0

-- how much the calls of the routine count among the first this many calls
unfoldable pub ways_up : List ℕ → List ℕ → ℕ → ℕ → ℕ
ways_up depth routine wanted calls = sum_by (way_up depth routine wanted) (numbers_below calls)

-- whether the calls of the routine count at most a sixteenth of all calls
abbrev pub are_few : List ℕ → List ℕ → ℕ → Bool
are_few depth routine wanted = nat_le (16 * ways_up depth routine wanted (length routine)) (length routine)

-- the most steps that a change by such an entry costs; trust costs no more than the calls of its routine count, where
-- they are few
abbrev pub change_steps : List ℕ → List ℕ → What → ℕ
change_steps depth routine (Judged call judgement) = 3 * (slice_index depth call + 1)
change_steps depth routine (Trusted wanted) =
    if are_few depth routine wanted then ways_up depth routine wanted (length routine) else 4 * length depth + 4

abbrev pub most_steps_at : Search → Option Entry → ℕ
most_steps_at search (Some entry) = change_steps search.depth search.book.routine entry.what
most_steps_at search None = 0
