-- What is printed of the run of a made program.
use Rattle.std.specs.Prelude.{◌++◌, [], ℕ, List, codes, decimal}
use Rattle.optimal_query.specs.declared.state.SearchState.{SearchState, TheVariants.Found}
use Rattle.dialog_replies.specs.{Subject.Subject, Subject.calls_recorded, Subject.state_after, Texts.named_call}
use Rattle.made_program.specs.Answering.{call_at_fault, entries_at_end, questions_of}

-- a word with a number
abbrev pub counted_line : List ℕ → ℕ → List ℕ
counted_line word number = word ++ codes " " ++ decimal number ++ codes "\n"

-- the call that is found, as a dialog names it; no line where none is
abbrev pub found_line : Subject → SearchState → List ℕ
found_line s (Found call) = codes "found call " ++ named_call s call ++ codes "\n"
found_line s _ = []

-- how many calls there are, how many questions were answered, and the call that is found in this state
abbrev pub summary_lines : Subject → SearchState → List ℕ
summary_lines s state =
    counted_line (codes "calls") (calls_recorded s) ++ counted_line (codes "questions") (questions_of s)
    ++ found_line s state

-- in the state in the end
unfoldable pub made_lines : Subject → List ℕ
made_lines s = summary_lines s (state_after s (entries_at_end s))

-- where the call at fault is found
abbrev pub fault_lines : Subject → List ℕ
fault_lines s = summary_lines s (Found (call_at_fault s))
