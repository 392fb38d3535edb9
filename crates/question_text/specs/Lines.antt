-- The lines of a card: its first one, and how those after it stand.
use Rattle.std.specs.Prelude.{◌++◌, [], ℕ, List, None, Option, Some, codes, decimal}
use Rattle.core_program.specs.ProgramRows.{ProgramRows, name_of}
use Rattle.call_tree.specs.declared.records.Call.{Call}

-- a line after the first one of a card
abbrev pub inner_line : List ℕ → List ℕ
inner_line text = codes "  " ++ text ++ codes "\n"

-- a call by its number and the name of its routine
abbrev pub call_text : ProgramRows → (k : ℕ) → Call → List ℕ
call_text p k call = codes "call " ++ decimal k ++ codes " " ++ name_of p call.routine

abbrev pub in_parent : Option ℕ → List ℕ
in_parent None = []
in_parent (Some parent) = codes " in call " ++ decimal parent

-- the first line of a card: a call by its number, the name of its routine, and the call that made it
abbrev pub call_line : ProgramRows → (k : ℕ) → Call → List ℕ
call_line p k call = call_text p k call ++ in_parent call.parent ++ codes "\n"

-- the name of the routine of a call, as a line
abbrev pub routine_line : ProgramRows → Call → List ℕ
routine_line p call = name_of p call.routine ++ codes "\n"
