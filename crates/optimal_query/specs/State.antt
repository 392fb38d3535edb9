-- The state of the search, after the answers that stand. It depends on nothing else but the columns of the calls: the
-- last call of each subtree, and the routine of each call.
use Rattle.std.specs.Prelude.{◌∷◌, [], ℕ, List, None, Option, Some, length}
use Rattle.call_tree.specs.declared.records.Mark.{Mark}
use Rattle.answer_book.specs.{Accused.accused_of, Marks.marks_of, declared.entries.What.What}
use Rattle.optimal_query.specs.{Region.doubts_of, Region.suspects_of, declared.state.SearchState.SearchState}
use Rattle.optimal_query.specs.Question.{left_of, question_of, weight_of}
use Rattle.optimal_query.specs.declared.state.SearchState.TheVariants.{Ask, Found, Narrowed, NothingWrong, Unclear}

-- with no suspect left, by the accused and the doubts
abbrev pub verdict_by : Option ℕ → List ℕ → SearchState
verdict_by (Some accused) [] = Found accused
verdict_by (Some accused) (doubt ∷ doubts) = Narrowed accused
verdict_by None [] = NothingWrong
verdict_by None (doubt ∷ doubts) = Unclear

-- a question where there is one, with its numbers; else the verdict
abbrev pub state_by : List ℕ → List ℕ → Option ℕ → SearchState → SearchState
state_by last suspects (Some call) verdict =
    Ask call (weight_of last suspects call) (length suspects) (left_of last suspects call)
state_by last suspects None verdict = verdict

-- the state, from the marks and the accused
unfoldable pub state_with : List ℕ → List Mark → Option ℕ → SearchState
state_with last marks accused =
    let suspects = suspects_of last marks accused in
    state_by last suspects (question_of last suspects) (verdict_by accused (doubts_of last marks accused))

-- the suspects and the doubts, after the answers that stand
abbrev pub suspects_after : List ℕ → List ℕ → List What → List ℕ
suspects_after last routine answers = suspects_of last (marks_of routine answers) (accused_of routine answers)

abbrev pub doubts_after : List ℕ → List ℕ → List What → List ℕ
doubts_after last routine answers = doubts_of last (marks_of routine answers) (accused_of routine answers)

-- the state of the search
abbrev pub state_of : List ℕ → List ℕ → List What → SearchState
state_of last routine answers = state_with last (marks_of routine answers) (accused_of routine answers)
