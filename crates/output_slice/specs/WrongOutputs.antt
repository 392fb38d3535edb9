-- What a wrong output narrows the fault to: from output to output it leads to a buggy call among those that are left.
use Rattle.std.specs.Prelude.{◌<◌, ◌≡◌, ◌⊎◌, ℕ, Bool, Contains, List, Option, Some, false, length, true}
use Rattle.std.specs.List.{slice_get}
use Rattle.core_program.specs.{ProgramRows.ProgramRows, Run.Call, Run.Marked, Run.run, State.State}
use Rattle.core_program.specs.Numbering.{belows, parent_of}
use Rattle.core_program.specs.Run as meaning
use Rattle.call_tree.specs.{Clear.is_clear, declared.records.Mark.Mark}
use Rattle.subtree_weights.specs.Searched.{mark_at}
use Rattle.answer_book.specs.{Accused.accused_of, Accused.is_wrong, declared.entries.What.What}
use Rattle.answer_book.specs.Numbers.{last_where, numbers_below}
use Rattle.optimal_query.specs.{Narrowing.IsLeft, Region.doubts_of, Region.suspects_of}
use Rattle.optimal_query.specs.Laws.{CallTree, IsCallTree, mark_in}
use Rattle.output_slice.specs.{Pieces.pieces_of, declared.outputs.Output.Output}
use Rattle.output_slice.specs.Outputs.{InSlice, Used, has_output}

-- for each output of each call whether it went wrong
abbrev pub OutputTruth : Type 0
OutputTruth = ℕ → Output → Bool

-- the columns are those of the calls of a run
pub record IsTreeOf (r : meaning.Result State Call) (calls : CallTree) : Type 0 where
  pub tree : IsCallTree calls
  pub parents : (call : ℕ) → call < length r.events
      → slice_get calls.parent call ≡ Some (parent_of (belows r.events) call)

-- the call has an output that went wrong, and all that this uses of the calls that it made went right
pub record IsBuggyAtOutput (r : meaning.Result State Call) (went_wrong : OutputTruth) (call : ℕ) : Type 0 where
  pub entry : Marked Call
  pub a_call : slice_get r.events call ≡ Some entry
  pub output : Output
  pub has : has_output entry.event output ≡ true
  pub wrong : went_wrong call output ≡ true
  pub used_right : (other : ℕ) (from : Output) → Used (pieces_of r call entry) output other from
      → went_wrong other from ≡ false

-- a wrong output of the accused, and the outputs of its slice whose calls are clear, which are right
pub record IsWrongOutput (r : meaning.Result State Call) (calls : CallTree) (answers : List What)
    (went_wrong : OutputTruth) (call : ℕ) (o : Output) : Type 0 where
  pub accused : accused_of calls.routine answers ≡ Some call
  pub entry : Marked Call
  pub a_call : slice_get r.events call ≡ Some entry
  pub has : has_output entry.event o ≡ true
  pub wrong : went_wrong call o ≡ true
  pub clear : (other : ℕ) (from : Output) → InSlice r call o other from
      → is_clear (mark_in calls answers other) ≡ true → went_wrong other from ≡ false

abbrev pub Narrowing : Type 0
Narrowing = (p : ProgramRows) (input : List ℕ) (budget : ℕ) (r : meaning.Result State Call)
    → run p input budget ≡ Some r
    → (calls : CallTree) → IsTreeOf r calls → (answers : List What) (went_wrong : OutputTruth) (call : ℕ) (o : Output)
    → IsWrongOutput r calls answers went_wrong call o
    → (found : ℕ) × IsLeft calls answers found × IsBuggyAtOutput r went_wrong found

-- ---- by marks, whichever the calls have

-- the greatest call that is marked wrong
abbrev pub accused_by : List Mark → Option ℕ
accused_by marks = last_where (λ call. is_wrong (mark_at marks call)) (numbers_below (length marks))

-- the call is the accused, a suspect or a doubt
abbrev pub IsLeftBy : (last : List ℕ) → List Mark → ℕ → Type 0
IsLeftBy last marks call = (accused_by marks ≡ Some call) ⊎ Contains (suspects_of last marks (accused_by marks)) call
    ⊎ Contains (doubts_of last marks (accused_by marks)) call

-- a wrong output of the accused, and the outputs of its slice whose calls are clear, which are right
pub record IsWrongByMarks (r : meaning.Result State Call) (marks : List Mark) (went_wrong : OutputTruth) (call : ℕ)
    (o : Output) : Type 0 where
  pub accused : accused_by marks ≡ Some call
  pub entry : Marked Call
  pub a_call : slice_get r.events call ≡ Some entry
  pub has : has_output entry.event o ≡ true
  pub wrong : went_wrong call o ≡ true
  pub clear : (other : ℕ) (from : Output) → InSlice r call o other from → is_clear (mark_at marks other) ≡ true
      → went_wrong other from ≡ false

abbrev pub NarrowingByMarks : Type 0
NarrowingByMarks = (p : ProgramRows) (input : List ℕ) (budget : ℕ) (r : meaning.Result State Call)
    → run p input budget ≡ Some r
    → (calls : CallTree) → IsTreeOf r calls → (marks : List Mark) → length marks ≡ length calls.last
    → (went_wrong : OutputTruth) (call : ℕ) (o : Output) → IsWrongByMarks r marks went_wrong call o
    → (found : ℕ) × IsLeftBy calls.last marks found × IsBuggyAtOutput r went_wrong found
