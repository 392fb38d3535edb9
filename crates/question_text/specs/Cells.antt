-- What is shown of cells: what a parameter holds, what a call showed of a cell, and what it left there.
use Rattle.std.specs.Prelude.{if◌then◌else◌, ◌++◌, ◌+◌, ◌-◌, ◌==◌, ◌∷◌, [], ℕ, List, None, Option, Some, codes, min}
use Rattle.std.specs.{Prelude.slice_range, Fmt.signed_decimal}
use Rattle.cell_value.specs.declared.entries.Change.{Change, TheVariants.Gone, TheVariants.Set}
use Rattle.cell_value.specs.declared.entries.Seen.{Seen, TheVariants.Absent, TheVariants.Held, TheVariants.There}
use Rattle.cell_value.specs.declared.values.Value.{Value}
use Rattle.core_program.specs.ProgramRows.{ProgramRows, name_of, size_of, text_at}
use Rattle.core_program.specs.declared.program.Routine.{Routine}
use Rattle.cell_names.specs.{Conformant.cells_held, Conformant.next_place, Names.variable_name, Names.way_down}
use Rattle.cell_names.specs.Names.{Scene, address_text, cell_held, copy_cells, is_link, local_at, root_at, root_text}
use Rattle.cell_names.specs.Values.{typed_text, unknown, untyped_text}
use Rattle.cell_names.specs.declared.names.{CopyCells.CopyCells, Frame.Frame, Local.Local, Root.Root}
use Rattle.cell_names.specs.declared.names.Held as names_held
use Rattle.cell_names.specs.declared.names.Held.TheVariants as held
use Rattle.question_text.specs.Lines.{inner_line}

-- the variable that has an address and is wanted; one without cells has no name
abbrev pub place_text : Scene → (cells : ℕ) → (wanted : names_held.Held) → Value → List ℕ
place_text s cells wanted (Value.Place address) =
    codes "at " ++ (if cells == 0 then codes "nothing" else variable_name s wanted address)
place_text s cells wanted v = unknown

-- the variable that a variable parameter of a type stands for
abbrev pub reference_text : Scene → (of' : ℕ) → Value → List ℕ
reference_text s of' = place_text s (size_of s.program of') (held.Variable of')

-- The array that a conformant parameter of a call stands for: it conforms to the schema, and has the bounds that the
-- call has. That of a parameter by value is its copy.
abbrev pub array_text : Scene → (call of' : ℕ) → Value → List ℕ
array_text s call of' = place_text s (cells_held s.program s.args call of') (held.Conformant call of')

-- a hidden tag: the position of the variant that it chooses, from 1
abbrev pub tag_text : Value → List ℕ
tag_text (Value.Number position) = signed_decimal position
tag_text v = unknown

-- a procedure or function as a parameter: the name of the one that it stands for
abbrev pub routine_text : ProgramRows → Value → List ℕ
routine_text p (Value.Routine routine frame) = name_of p routine
routine_text p v = unknown

-- what a cell holds
abbrev pub held_text : Scene → names_held.Held → Value → List ℕ
held_text s (held.Variable of') v = typed_text s.program of' v
held_text s held.HiddenTag v = tag_text v
held_text s (held.Reference of') v = reference_text s of' v
held_text s (held.Conformant call of') v = unknown
held_text s (held.ConformantReference call of') v = array_text s call of' v
held_text s held.Routine v = routine_text s.program v

abbrev pub root_value_text : Scene → Option Root → Value → List ℕ
root_value_text s None v = untyped_text v
root_value_text s (Some r) v = held_text s (cell_held s None r) v

-- the name of a cell, and what it holds
abbrev pub cell_value_text : Scene → (address : ℕ) → Option Root → Value → List ℕ
cell_value_text s address r v = root_text s None address r ++ codes " = " ++ root_value_text s r v

abbrev pub parameter_text : Scene → (address : ℕ) → Option Local → Value → List ℕ
parameter_text s address None v = address_text address ++ codes " = " ++ untyped_text v
parameter_text s address (Some l) v =
    text_at s.program l.token ++ (way_down s None l.spot).text ++ codes " = "
    ++ held_text s (way_down s None l.spot).end.held v

-- the address of a place of a frame; addresses end with the last of 32 bits
abbrev pub address_in : (top place : ℕ) → ℕ
address_in top place = min (top + place) 4294967295

-- a cell at a place of a call's frame, which begins at an address
abbrev pub parameter_line : Scene → Frame → (place : ℕ) → Value → List ℕ
parameter_line s f place v = inner_line (parameter_text s (address_in f.top place) (local_at s f place) v)

-- cells that follow one another from a place of a call's frame on
abbrev pub cells_text : Scene → Frame → (place : ℕ) → List Value → List ℕ
cells_text s f place [] = []
cells_text s f place (v ∷ vs) = parameter_line s f place v ++ cells_text s f (next_place place) vs

-- where the copies begin among what a call was entered with: after the link and the parameters; and in its frame: after
-- all that has a place of its own
abbrev pub copied_in : (args : List Value) → Routine → CopyCells → List Value
copied_in args r c =
    slice_range args (r.parameters + (c.place - r.cells)) (r.parameters + (c.place - r.cells) + c.cells)

-- the parameter at a place: what its cell holds, or of a conformant one by value the cells of its copy
abbrev pub argument_text : Scene → Frame → Routine → (args : List Value) → (place : ℕ) → Value → Option CopyCells
    → List ℕ
argument_text s f r args place v None = parameter_line s f place v
argument_text s f r args place v (Some c) = cells_text s f c.place (copied_in args r c)

-- parameters, which begin at a place of a call's frame
abbrev pub parameters_text : Scene → Frame → Routine → (args : List Value) → (place : ℕ) → List Value → List ℕ
parameters_text s f r args place [] = []
parameters_text s f r args place (v ∷ vs) =
    argument_text s f r args place v (copy_cells s f place) ++ parameters_text s f r args (place + 1) vs

-- The parameters of a call in order. Bounds are cells before those of their section's names; the copies are told with
-- the parameters that they are of.
abbrev pub arguments_text : Scene → Frame → (args : List Value) → Option Routine → List ℕ
arguments_text s f args None = []
arguments_text s f args (Some r) = parameters_text s f r args 1 (slice_range args 1 r.parameters)

-- what a call showed of a cell: what it held, or that the heap had it or lacked it
abbrev pub seen_text : Scene → (address : ℕ) → Option Root → Seen → List ℕ
seen_text s address r (Held v) = codes "reads " ++ cell_value_text s address r v
seen_text s address r There = codes "finds " ++ root_text s None address r
seen_text s address r Absent = codes "misses " ++ root_text s None address r

-- the line on that, which links have none of
abbrev pub seen_line : Scene → (ℕ × Seen) → List ℕ
seen_line s x = if is_link s x.0 then [] else inner_line (seen_text s x.0 (root_at s x.0) x.1)

-- what a call left a cell with
abbrev pub change_text : Scene → (address : ℕ) → Option Root → Change → List ℕ
change_text s address r (Set v) = codes "changes " ++ cell_value_text s address r v
change_text s address r Gone = codes "changes " ++ root_text s None address r ++ codes " gone"

-- the line on that, which links have none of
abbrev pub change_line : Scene → (ℕ × Change) → List ℕ
change_line s x = if is_link s x.0 then [] else inner_line (change_text s x.0 (root_at s x.0) x.1)
