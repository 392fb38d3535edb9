-- What is printed of calls, and of the state of the search.
use Rattle.std.specs.Prelude.{◌++◌, [], ℕ, List, None, Option, Some, codes, decimal, slice_index}
use Rattle.std.specs.List.{flat_map}
use Rattle.answer_book.specs.declared.entries.{Entry.Entry, Judgement.Judgement}
use Rattle.optimal_query.specs.declared.state.SearchState.{SearchState}
use Rattle.optimal_query.specs.declared.state.SearchState.TheVariants.{Ask, Found, Narrowed, NothingWrong, Unclear}
use Rattle.session_file.specs.Text.{judgement_word}
use Rattle.dialog_replies.specs.Said.{Said, kept_on}
use Rattle.dialog_replies.specs.Subject.{Subject, doubts_after, marks_after, state_after}

-- the routine of a call
abbrev pub routine_of : Subject → ℕ → ℕ
routine_of s call = slice_index s.tree.routine call

-- a number with a name
abbrev pub numbered_name : ℕ → List ℕ → List ℕ
numbered_name number name = decimal number ++ codes " " ++ name

-- a call by its number and the name of its routine
abbrev pub named_call : Subject → ℕ → List ℕ
named_call s call = decimal call ++ codes " " ++ s.name (routine_of s call)

-- ---- the report on the state of the search

abbrev pub question_line : (call suspects left : ℕ) → List ℕ
question_line call suspects left =
    codes "ask " ++ decimal call ++ codes " suspects " ++ decimal suspects ++ codes " left " ++ decimal left
    ++ codes "\n"

abbrev pub doubt_line : Subject → ℕ → List ℕ
doubt_line s call = codes "  doubt " ++ named_call s call ++ codes "\n"

-- a line on each doubt, rising
abbrev pub doubt_lines : Subject → List Entry → List ℕ
doubt_lines s entries = flat_map (doubt_line s) (doubts_after s entries)

-- the reply that was kept to a question
abbrev pub kept_line : Option Judgement → List ℕ
kept_line None = []
kept_line (Some judgement) = codes "  kept " ++ judgement_word judgement ++ codes "\n"

abbrev pub report_on : Subject → Said → SearchState → List ℕ
report_on s said (Ask call weight suspects left) =
    question_line call suspects left ++ s.card call ++ kept_line (kept_on s said.replies call)
report_on s said (Found call) = codes "found call " ++ named_call s call ++ codes "\n" ++ s.trace call
report_on s said (Narrowed call) =
    codes "narrowed to call " ++ named_call s call ++ codes "\n" ++ doubt_lines s said.entries
report_on s said NothingWrong = codes "nothing wrong\n"
report_on s said Unclear = codes "unclear\n" ++ doubt_lines s said.entries

-- the report after what was said
unfoldable pub report : Subject → Said → List ℕ
report s said = report_on s said (state_after s said.entries)

-- ---- the tree with its marks

-- a line on each call, in order of entry
abbrev pub tree_text : Subject → List Entry → List ℕ
tree_text s entries = s.marked (marks_after s entries)
