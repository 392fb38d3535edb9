-- Which calls are judged right since a wrong output does not come from them, and that a buggy call is left after that.
use Rattle.std.specs.Prelude.{◌&&◌, ◌+◌, ◌-◌, ◌<◌, ◌∷◌, ◌≡◌, ◌≤◌, [], ℕ, Bool, Err, List, Ok, Option, Result as Outcome}
use Rattle.std.specs.Prelude.{Some, false, length, not, slice_index, sum_by}
use Rattle.std.specs.List.{filter, range_with_len, slice_get}
use Rattle.core_program.specs.{ProgramRows.ProgramRows, Run.Call, Run.Result, Run.run, State.State}
use Rattle.call_tree.specs.{Clear.is_unjudged, declared.records.Call.Call as Row}
use Rattle.call_tree.specs.Recording.{lasts_of, parents_of, routines_of}
use Rattle.program_run.specs.Table.{table_of}
use Rattle.answer_book.specs.declared.entries.{BookFault.BookFault, BookFault.TheVariants.Full, What.TheVariants.Judged}
use Rattle.answer_book.specs.declared.entries.Judgement.TheVariants.{Right, Wrong}
use Rattle.optimal_query.specs.{Changed.change_steps, Laws.CallTree, Laws.judged, Narrowing.IsLeft}
use Rattle.optimal_query.specs.Search.{Search, answers_in, mark_now, search_with}
use Rattle.output_slice.specs.{Backward.some_at, SliceLists.IsSliceList, declared.outputs.Output.Output}
use Rattle.output_slice.specs.WrongOutputs.{IsBuggyAtOutput, IsWrongOutput, OutputTruth}

-- the call of the output that is sliced
abbrev pub sliced_call : List (ℕ × Output) → ℕ
sliced_call [] = 0
sliced_call (y ∷ ys) = y.0

-- whether a call whose parent is this one has no pair in a slice that has one of the parent
abbrev pub parent_alone : List (ℕ × Output) → (call : ℕ) → Option (Option ℕ) → Bool
parent_alone pairs call (Some (Some parent)) = some_at parent pairs && not (some_at call pairs)
parent_alone pairs call o = false

-- whether a call is left out: nothing is said of it, and it has no pair, but its parent has one
abbrev pub is_left_out : Search → List (Option ℕ) → List (ℕ × Output) → ℕ → Bool
is_left_out search parents pairs call =
    parent_alone pairs call (slice_get parents call) && is_unjudged (mark_now search call)

-- those that are left out of the first calls below a call
abbrev pub left_out : Search → List (Option ℕ) → List (ℕ × Output) → (call below : ℕ) → List ℕ
left_out search parents pairs call below =
    filter (is_left_out search parents pairs) (range_with_len (call + 1) below)

-- and of all calls below it
abbrev pub left_out_below : Search → List Row → List (ℕ × Output) → ℕ → List ℕ
left_out_below search rows pairs call =
    left_out search (parents_of rows) pairs call (slice_index (lasts_of rows) call - call)

-- a search where these calls are judged right, one after another
abbrev pub judged_right : Search → List ℕ → Search
judged_right search [] = search
judged_right search (call ∷ calls) = judged_right (search_with search (Judged call Right)) calls

-- The answer where a call is judged wrong, and then these calls right: the first entry and the last one. There is no
-- room where a book would have more than 100,000 entries, and then nothing is changed.
abbrev pub AnswersLeftOut : Search → (call : ℕ) → List ℕ → Search → Outcome (ℕ × ℕ) BookFault → Type 0
AnswersLeftOut old call calls new (Ok numbers) = (new ≡ judged_right (search_with old (Judged call Wrong)) calls)
    × (numbers ≡ (length old.book.entries + 1, length old.book.entries + 1 + length calls))
    × (length old.book.entries + 1 + length calls ≤ 100000)
AnswersLeftOut old call calls new (Err Full) = (100000 < length old.book.entries + 1 + length calls) × (new ≡ old)
AnswersLeftOut old call calls new (Err fault) = ⊥

-- how many steps a judgement on a call takes at most, and those on all of these calls
abbrev pub steps_on : Search → ℕ → ℕ
steps_on search call = change_steps search.depth search.book.routine (Judged call Right)

abbrev pub steps_on_all : Search → List ℕ → ℕ
steps_on_all search calls = sum_by (steps_on search) calls

-- the columns of these calls
abbrev pub columns_of : List Row → CallTree
columns_of rows = record { parent = parents_of rows; last = lasts_of rows; routine = routines_of rows }

-- A buggy call is still left: if these are the calls of a run and the slice of an output, then whichever outputs went
-- wrong, as long as they agree with the answers and the judgement on the sliced call, which is then the accused.
abbrev pub BuggyStays : List Row → List (ℕ × Output) → (old new : Search) → Type 0
BuggyStays rows pairs old new = (p : ProgramRows) (input : List ℕ) (budget : ℕ) (r : Result State Call)
    → run p input budget ≡ Some r → rows ≡ table_of r.events → (call : ℕ) (o : Output) → IsSliceList r call o pairs
    → (went_wrong : OutputTruth)
    → IsWrongOutput r (columns_of rows) (judged (answers_in old) call Wrong) went_wrong call o
    → (found : ℕ) × IsLeft (columns_of rows) (answers_in new) found × IsBuggyAtOutput r went_wrong found
