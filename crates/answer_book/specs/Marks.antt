-- The mark of a call, from the answers that stand, first to last. Of several judgements on one call the last counts,
-- and a judgement counts more than trust, whichever came later; both are this project's own rules.
use Rattle.std.specs.Prelude.{if◌then◌else◌, ◌==◌, ℕ, Bool, List, None, Option, Some, false, length, map, slice_index}
use Rattle.std.specs.{Prelude.true, List.filter_map, List.list_any}
use Rattle.call_tree.specs.declared.records.Mark.{Mark}
use Rattle.answer_book.specs.{Numbers.last_of, Numbers.numbers_below, declared.entries.Judgement.Judgement}
use Rattle.answer_book.specs.declared.entries.What.{What, TheVariants.Judged, TheVariants.Trusted}

-- the judgement that an answer gives on the call
abbrev pub judgement_on : ℕ → What → Option Judgement
judgement_on call (Judged other judgement) = if other == call then Some judgement else None
judgement_on call (Trusted routine) = None

-- the last judgement on the call
abbrev pub last_judgement : List What → ℕ → Option Judgement
last_judgement answers call = last_of (filter_map (judgement_on call) answers)

-- whether an answer trusts the routine
abbrev pub trusts : ℕ → What → Bool
trusts routine (Trusted other) = other == routine
trusts routine (Judged call judgement) = false

-- whether some answer trusts the routine
abbrev pub is_trusted : List What → ℕ → Bool
is_trusted answers routine = list_any (trusts routine) answers

-- the mark that a judgement gives
abbrev pub mark_by : Judgement → Mark
mark_by Judgement.Right = Mark.Right
mark_by Judgement.Wrong = Mark.Wrong
mark_by Judgement.Unknown = Mark.Unknown

-- the mark by the last judgement, if there is one, and by whether the routine is trusted
abbrev pub mark_given : Option Judgement → Bool → Mark
mark_given (Some judgement) trusted = mark_by judgement
mark_given None true = Mark.Trusted
mark_given None false = Mark.Unjudged

-- the mark of a call, where `routine` has the routine of each call
unfoldable pub mark_of : List ℕ → List What → ℕ → Mark
mark_of routine answers call = mark_given (last_judgement answers call) (is_trusted answers (slice_index routine call))

-- the marks of all calls, in order of entry
abbrev pub marks_of : List ℕ → List What → List Mark
marks_of routine answers = map (mark_of routine answers) (numbers_below (length routine))
