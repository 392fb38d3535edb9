-- What the answers narrow the fault to. A call is buggy if it went wrong though each call that it made went right
-- (Shapiro 1983).
use Rattle.std.specs.Prelude.{◌<◌, ◌≡◌, ◌⊎◌, ℕ, Bool, Contains, List, Some, false, length, true}
use Rattle.call_tree.specs.{Clear.is_clear, Numbering.IsParent, declared.records.Mark.Mark}
use Rattle.answer_book.specs.{Accused.accused_of, declared.entries.What.What}
use Rattle.optimal_query.specs.Laws.{CallTree, IsCallTree, doubts_in, mark_in, state_in, suspects_in}
use Rattle.optimal_query.specs.declared.state.SearchState.TheVariants.{Found}

-- for each call whether it went wrong
abbrev pub Truth : Type 0
Truth = ℕ → Bool

-- the calls that are marked right or trusted did not go wrong, and those that are marked wrong did
pub record AgreesWithMarks (calls : CallTree) (answers : List What) (went_wrong : Truth) : Type 0 where
  pub clear : (call : ℕ) → call < length calls.last → is_clear (mark_in calls answers call) ≡ true
      → went_wrong call ≡ false
  pub wrong : (call : ℕ) → call < length calls.last → mark_in calls answers call ≡ Mark.Wrong → went_wrong call ≡ true

-- the call went wrong, and each of its children went right
pub record IsBuggy (calls : CallTree) (went_wrong : Truth) (call : ℕ) : Type 0 where
  pub a_call : call < length calls.last
  pub wrong : went_wrong call ≡ true
  pub children_right : (child : ℕ) → IsParent calls.parent call child → went_wrong child ≡ false

-- the call is the accused, a suspect or a doubt
abbrev pub IsLeft : CallTree → List What → ℕ → Type 0
IsLeft calls answers call =
    (accused_of calls.routine answers ≡ Some call) ⊎ Contains (suspects_in calls answers) call
    ⊎ Contains (doubts_in calls answers) call

-- if a call is accused, then whatever the truth is, one of the calls that are left is buggy
abbrev pub BuggyIsLeft : Type 0
BuggyIsLeft =
    (calls : CallTree) (answers : List What) (accused : ℕ) (went_wrong : Truth) → IsCallTree calls
    → accused_of calls.routine answers ≡ Some accused → AgreesWithMarks calls answers went_wrong
    → (call : ℕ) × IsLeft calls answers call × IsBuggy calls went_wrong call

-- and a call that is found is buggy
abbrev pub FoundIsBuggy : Type 0
FoundIsBuggy =
    (calls : CallTree) (answers : List What) (call : ℕ) (went_wrong : Truth) → IsCallTree calls
    → state_in calls answers ≡ Found call → AgreesWithMarks calls answers went_wrong
    → IsBuggy calls went_wrong call
