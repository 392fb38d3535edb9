-- The calls of a run, a line for each.
use Rattle.std.specs.Prelude.{◌++◌, ◌+◌, ◌∷◌, [], ℕ, List, None, Option, Some, codes, decimal}
use Rattle.core_program.specs.ProgramRows.{ProgramRows, name_of}
use Rattle.call_tree.specs.declared.records.{Call.Call, Mark.Mark}

abbrev pub mark_text : Mark → List ℕ
mark_text Mark.Unjudged = codes "unjudged"
mark_text Mark.Right = codes "right"
mark_text Mark.Wrong = codes "wrong"
mark_text Mark.Unknown = codes "unknown"
mark_text Mark.Trusted = codes "trusted"

abbrev pub under : (parent : Option ℕ) → List ℕ
under None = []
under (Some parent) = codes " in " ++ decimal parent

-- a routine by its name and its number
abbrev pub numbered_routine : ProgramRows → (routine : ℕ) → List ℕ
numbered_routine p routine = codes " " ++ name_of p routine ++ codes " #" ++ decimal routine

-- a call by its number, the call that made it, its routine, and what is said of it
abbrev pub tree_line : ProgramRows → (k : ℕ) → Call → Mark → List ℕ
tree_line p k call mark' =
    decimal k ++ under call.parent ++ numbered_routine p call.routine ++ codes " " ++ mark_text mark' ++ codes "\n"

-- a line for each call from call k on
abbrev pub tree_from : ProgramRows → (k : ℕ) → List Call → List Mark → List ℕ
tree_from p k [] marks = []
tree_from p k (call ∷ calls) [] = []
tree_from p k (call ∷ calls) (mark' ∷ marks) = tree_line p k call mark' ++ tree_from p (k + 1) calls marks

-- a line for each call of a run, in order of entry, with what is said of it
unfoldable pub tree_text : ProgramRows → List Call → List Mark → List ℕ
tree_text p calls marks = tree_from p 0 calls marks
