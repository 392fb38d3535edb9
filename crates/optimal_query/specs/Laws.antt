-- What holds of the search, whichever answers stand.
use Rattle.std.specs.Prelude.{◌++◌, ◌+◌, ◌<◌, ◌∷◌, ◌≡◌, ◌≢◌, ◌≤◌, ◌⊎◌, [], ℕ, All, Contains, List, Option, length, max}
use Rattle.std.specs.Prelude.{true}
use Rattle.call_tree.specs.{Clear.is_clear, Numbering.IsNumbered, Numbering.IsParent, declared.records.Mark.Mark}
use Rattle.answer_book.specs.{Accused.accused_of, Marks.mark_of, Marks.marks_of}
use Rattle.answer_book.specs.declared.entries.{Judgement.Judgement, What.What, What.TheVariants.Judged}
use Rattle.answer_book.specs.declared.entries.Judgement.TheVariants.{Right, Unknown, Wrong}
use Rattle.optimal_query.specs.{Question.weight_of, Region.region_of, declared.state.SearchState.SearchState}
use Rattle.optimal_query.specs.State.{doubts_after, state_of, suspects_after}
use Rattle.optimal_query.specs.declared.state.SearchState.TheVariants.{Ask, Found, NothingWrong}

-- the columns of the calls of a run: the parent of each call, the last call of its subtree, and its routine
pub record CallTree : Type 0 where
  pub parent : List (Option ℕ)
  pub last : List ℕ
  pub routine : List ℕ

-- they are of calls that are numbered in order of entry, and there is a routine for each
pub record IsCallTree (calls : CallTree) : Type 0 where
  pub numbered : IsNumbered calls.parent calls.last
  pub of_routines : length calls.routine ≡ length calls.last

-- the mark of a call, the region, the suspects, the doubts and the state, after these answers
abbrev pub mark_in : CallTree → List What → ℕ → Mark
mark_in calls answers call = mark_of calls.routine answers call

abbrev pub region_in : CallTree → List What → List ℕ
region_in calls answers = region_of calls.last (marks_of calls.routine answers) (accused_of calls.routine answers)

abbrev pub suspects_in : CallTree → List What → List ℕ
suspects_in calls answers = suspects_after calls.last calls.routine answers

abbrev pub doubts_in : CallTree → List What → List ℕ
doubts_in calls answers = doubts_after calls.last calls.routine answers

abbrev pub state_in : CallTree → List What → SearchState
state_in calls answers = state_of calls.last calls.routine answers

-- each call of the region is a suspect or a doubt
abbrev pub RegionIsLeft : Type 0
RegionIsLeft =
    (calls : CallTree) (answers : List What) (call : ℕ) → IsCallTree calls → Contains (region_in calls answers) call
    → Contains (suspects_in calls answers) call ⊎ Contains (doubts_in calls answers) call

-- the answers with one more judgement
abbrev pub judged : List What → ℕ → Judgement → List What
judged answers call judgement = answers ++ Judged call judgement ∷ []

-- how many suspects are left once the call is judged so
abbrev pub left_after : CallTree → List What → ℕ → Judgement → ℕ
left_after calls answers call judgement = length (suspects_in calls (judged answers call judgement))

-- and how many the worse of `wrong` and `right` leaves
abbrev pub worse_leaves : CallTree → List What → ℕ → ℕ
worse_leaves calls answers call = max (left_after calls answers call Wrong) (left_after calls answers call Right)

-- what the answers on a suspect leave: `wrong` the other suspects of its subtree, `right` those outside it, and
-- `unknown` all others
pub record LeaveWhatIsCounted (calls : CallTree) (answers : List What) (call : ℕ) : Type 0 where
  pub wrong : left_after calls answers call Wrong + 1 ≡ weight_of calls.last (suspects_in calls answers) call
  pub right : left_after calls answers call Right + weight_of calls.last (suspects_in calls answers) call
      ≡ length (suspects_in calls answers)
  pub unknown : left_after calls answers call Unknown + 1 ≡ length (suspects_in calls answers)

abbrev pub AnswersLeaveWhatIsCounted : Type 0
AnswersLeaveWhatIsCounted =
    (calls : CallTree) (answers : List What) (call : ℕ) → IsCallTree calls → Contains (suspects_in calls answers) call
    → LeaveWhatIsCounted calls answers call

-- a suspect of which the worse answer leaves this many, and no other suspect's leaves fewer; of those that leave as
-- many it has the least number
pub record IsOptimal (calls : CallTree) (answers : List What) (call left : ℕ) : Type 0 where
  pub a_suspect : Contains (suspects_in calls answers) call
  pub its_own : left ≡ worse_leaves calls answers call
  pub none_leaves_fewer : All (λ other. left ≤ worse_leaves calls answers other) (suspects_in calls answers)
  pub first_of_equals : All (λ other. worse_leaves calls answers other ≡ left → call ≤ other)
      (suspects_in calls answers)

-- what is asked is least, and its numbers are those that are said
pub record IsAsked (calls : CallTree) (answers : List What) (call weight suspects : ℕ) : Type 0 where
  pub its_weight : weight ≡ weight_of calls.last (suspects_in calls answers) call
  pub all_suspects : suspects ≡ length (suspects_in calls answers)
  pub fewer : (answer : Judgement) → left_after calls answers call answer < suspects

abbrev pub QuestionIsLeast : Type 0
QuestionIsLeast =
    (calls : CallTree) (answers : List What) (call weight suspects left : ℕ) → IsCallTree calls
    → state_in calls answers ≡ Ask call weight suspects left
    → IsOptimal calls answers call left × IsAsked calls answers call weight suspects

-- a call at fault: it is judged wrong, and each of its children is right or trusted (Shapiro 1983); nothing is left to
-- ask, and nothing is in doubt
pub record IsAtFault (calls : CallTree) (answers : List What) (call : ℕ) : Type 0 where
  pub a_call : call < length calls.last
  pub judged_wrong : mark_in calls answers call ≡ Mark.Wrong
  pub children_clear : (child : ℕ) → IsParent calls.parent call child → is_clear (mark_in calls answers child) ≡ true
  pub no_suspect : suspects_in calls answers ≡ []
  pub no_doubt : doubts_in calls answers ≡ []

abbrev pub FoundIsAtFault : Type 0
FoundIsAtFault =
    (calls : CallTree) (answers : List What) (call : ℕ) → IsCallTree calls → state_in calls answers ≡ Found call
    → IsAtFault calls answers call

-- nothing is wrong: no call is judged wrong, nothing is left to ask, and nothing is in doubt
pub record NothingIsWrong (calls : CallTree) (answers : List What) : Type 0 where
  pub none_wrong : (call : ℕ) → call < length calls.last → mark_in calls answers call ≢ Mark.Wrong
  pub no_suspect : suspects_in calls answers ≡ []
  pub no_doubt : doubts_in calls answers ≡ []

abbrev pub NothingWrongIsNothing : Type 0
NothingWrongIsNothing =
    (calls : CallTree) (answers : List What) → IsCallTree calls → state_in calls answers ≡ NothingWrong
    → NothingIsWrong calls answers
