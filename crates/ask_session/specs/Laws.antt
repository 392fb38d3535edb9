-- What the reports of a dialog say, after whatever entries.
use Rattle.std.specs.Prelude.{◌≡◌, ◌⊎◌, ℕ, List, Option, Some}
use Rattle.answer_book.specs.{Accused.accused_of, Entries.standing_answers, declared.entries.Entry.Entry}
use Rattle.optimal_query.specs.Laws.{IsAsked, IsAtFault, IsCallTree, IsOptimal}
use Rattle.optimal_query.specs.Narrowing.{AgreesWithMarks, IsBuggy, IsLeft, Truth}
use Rattle.optimal_query.specs.declared.state.SearchState.TheVariants.{Ask, Found, Narrowed}
use Rattle.dialog_replies.specs.Subject.{Subject, state_after}

-- it holds of each subject in whose columns the subtree of a call is an interval
abbrev pub OfEachTree : (Subject → Type 0) → Type 0
OfEachTree holds = (s : Subject) → IsCallTree s.tree → holds s

-- A question: a suspect, with the numbers that are told. On no suspect does the worse answer leave fewer, and of those
-- on which it leaves as few it is the first.
abbrev pub AsksTheBest : Subject → Type 0
AsksTheBest s =
    (entries : List Entry) (call weight suspects left : ℕ) → state_after s entries ≡ Ask call weight suspects left
    → IsOptimal s.tree (standing_answers entries) call left
    × IsAsked s.tree (standing_answers entries) call weight suspects

-- the call that is accused, if one is
abbrev pub accused_after : Subject → List Entry → Option ℕ
accused_after s entries = accused_of s.tree.routine (standing_answers entries)

-- A call is accused, and some calls went wrong, as far as the marks allow: the accused, the suspects and the doubts
-- together hold one that went wrong though each of its children went right (Shapiro 1983).
abbrev pub NarrowsTheFault : Subject → Type 0
NarrowsTheFault s =
    (entries : List Entry) (accused : ℕ) (went_wrong : Truth) → accused_after s entries ≡ Some accused
    → AgreesWithMarks s.tree (standing_answers entries) went_wrong
    → (call : ℕ) × IsLeft s.tree (standing_answers entries) call × IsBuggy s.tree went_wrong call

-- The call of a verdict is the accused.
abbrev pub NamesTheAccused : Subject → Type 0
NamesTheAccused s =
    (entries : List Entry) (call : ℕ) → (state_after s entries ≡ Found call) ⊎ (state_after s entries ≡ Narrowed call)
    → accused_after s entries ≡ Some call

-- The call that is found is judged wrong, and each of its children is right or trusted; no suspect and no doubt is
-- left. Whichever calls went wrong, as far as the marks allow, it did, and none of its children did.
abbrev pub FindsTheFault : Subject → Type 0
FindsTheFault s =
    (entries : List Entry) (call : ℕ) → state_after s entries ≡ Found call
    → IsAtFault s.tree (standing_answers entries) call
    × ((went_wrong : Truth) → AgreesWithMarks s.tree (standing_answers entries) went_wrong
    → IsBuggy s.tree went_wrong call)
