-- What frames are made of, from the tables of a program (ISO 7185, 6.2.1, 6.4.3.3, 6.6.3).
use Rattle.std.specs.Prelude.{if◌then◌else◌, ◌++◌, ◌+◌, ◌-◌, ◌==◌, [], ℕ, Bool, List, None, Option, Some, false, filter}
use Rattle.std.specs.Prelude.{filter_map, min, option_to_list, suc, zero}
use Rattle.std.specs.List.{range_with_len}
use Rattle.cell_value.specs.Effects.{last_of}
use Rattle.core_program.specs.ProgramRows.{ProgramRows, routine_at, row_at, type_at}
use Rattle.core_program.specs.declared.{program.Routine.Routine, rows.TypeRow.TypeRow}
use Rattle.core_program.specs.declared.rows.{ItemRow.ItemRow, Mode.Mode, NameRow.NameRow, PartRow.PartRow, Row.Row}
use Rattle.cell_names.specs.declared.places.PlacedPart.{PlacedPart}

abbrev pub part : (place number : ℕ) → PlacedPart
part place number = record { place = place; number = number }

abbrev pub named_part : (number : ℕ) → Row → Option PlacedPart
named_part number (Row.Name (NameRow.Variable mode' of' place level)) = Some (part place number)
named_part number (Row.Name (NameRow.Bound of' place level)) = Some (part place number)
named_part number (Row.Name (NameRow.RoutineFormal place level heading)) = Some (part place number)
named_part number r = None

-- what the name at a token is in its frame
abbrev pub parts_at : ProgramRows → (token : ℕ) → List PlacedPart
parts_at p token = option_to_list (named_part token (row_at p token))

-- the name after the next comma; numbers of tokens end with the last of 32 bits
abbrev pub next_name : (token : ℕ) → ℕ
next_name token = min (token + 2) 4294967295

-- this many names of a section of parameters, from one on
abbrev pub section_parts : ProgramRows → (count : ℕ) → (token : ℕ) → List PlacedPart
section_parts p zero token = []
section_parts p (suc count) token = parts_at p token ++ section_parts p count (next_name token)

-- a procedure or function as a parameter, by its heading
abbrev pub heading_part : ProgramRows → Row → List PlacedPart
heading_part p (Row.Part (PartRow.Heading name sections result)) = parts_at p name
heading_part p r = []

-- more sections, and more specs of a schema, than a source of 1,048,576 bytes has
unfoldable pub most_sections : ℕ
most_sections = 1048576

-- the token this many after another; numbers of tokens end with the last of 32 bits
abbrev pub token_after : (token more : ℕ) → ℕ
token_after token more = min (token + more) 4294967295

-- the two bounds of a spec, which stand after its bracket or semicolon with `..` between them
abbrev pub spec_parts : ProgramRows → (spec : ℕ) → List PlacedPart
spec_parts p spec = parts_at p (token_after spec 1) ++ parts_at p (token_after spec 3)

-- the type of the components by a spec
abbrev pub component_in : Option TypeRow → Option ℕ
component_in (Some (TypeRow.Conformant packed index component place)) = Some component
component_in t = None

-- the bounds of a schema and of those inside it
abbrev pub bounds_by : ProgramRows → (go : ℕ → List PlacedPart) → (spec : ℕ) → Option ℕ → List PlacedPart
bounds_by p go spec None = []
bounds_by p go spec (Some component) = spec_parts p spec ++ go component

abbrev pub bounds_parts : ProgramRows → (most : ℕ) → (spec : ℕ) → List PlacedPart
bounds_parts p zero spec = []
bounds_parts p (suc most) spec = bounds_by p (bounds_parts p most) spec (component_in (type_at p spec))

-- the bounds of the schema of a section, by the row of the section's first name
abbrev pub bounds_before : ProgramRows → Row → List PlacedPart
bounds_before p (Row.Name (NameRow.Variable mode' of' place level)) = bounds_parts p most_sections of'
bounds_before p r = []

-- the parameters of a section: the bounds come before the names
abbrev pub section_of : ProgramRows → Row → List PlacedPart
section_of p (Row.Item (ItemRow.Section mode' first count next)) =
    bounds_before p (row_at p first) ++ section_parts p count first
section_of p (Row.Item (ItemRow.RoutineSection heading next)) = heading_part p (row_at p heading)
section_of p r = []

-- where the section after one stands
abbrev pub section_after : Row → Option ℕ
section_after (Row.Item (ItemRow.Section mode' first count next)) = Some next
section_after (Row.Item (ItemRow.RoutineSection heading next)) = Some next
section_after r = None

abbrev pub parts_after : (rest : ℕ → List PlacedPart) → Option ℕ → List PlacedPart
parts_after rest None = []
parts_after rest (Some next) = rest next

-- the parameters in the sections from one on, of which at most this many are gone through
abbrev pub sections_parts : ProgramRows → (most : ℕ) → (slot : ℕ) → List PlacedPart
sections_parts p zero slot = []
sections_parts p (suc most) slot =
    section_of p (row_at p slot) ++ parts_after (sections_parts p most) (section_after (row_at p slot))

abbrev pub parameters_in : ProgramRows → Row → List PlacedPart
parameters_in p (Row.Part (PartRow.Heading name sections result)) = sections_parts p most_sections sections
parameters_in p r = []

-- the parameters of a routine, in order
abbrev pub parameters_of : ProgramRows → Routine → List PlacedPart
parameters_of p r = parameters_in p (row_at p r.heading)

abbrev pub is_name_of : Row → (number name : ℕ) → Bool
is_name_of (Row.Name (NameRow.Routine assigned n region)) number name = n == number
is_name_of (Row.Part (PartRow.Completing first)) number name = first == name
is_name_of r number name = false

abbrev pub token_or_zero : Option ℕ → ℕ
token_or_zero None = 0
token_or_zero (Some token) = token

-- where the block of a routine begins: at the name in the last heading of the routine before its statement part, and of
-- the program with its first token
unfoldable pub block_start : ProgramRows → (number : ℕ) → (name before : ℕ) → ℕ
block_start p number name before =
    token_or_zero (last_of (filter (λ token. is_name_of (row_at p token) number name) (range_with_len 0 before)))

abbrev pub own_in : (level number : ℕ) → Row → Option PlacedPart
own_in level number (Row.Name (NameRow.Variable Mode.Own of' place l)) =
    if l == level then Some (part place number) else None
own_in level number r = None

-- the variables of a block with this many others around, which stand between two tokens
unfoldable pub own_between : ProgramRows → (level from to : ℕ) → List PlacedPart
own_between p level from to =
    filter_map (λ token. own_in level token (row_at p token)) (range_with_len from (to - from))

-- The variables of a routine's block, in order. They stand before its statement part; so do those of the blocks inside,
-- which have more blocks around.
abbrev pub variables_of : ProgramRows → (number : ℕ) → Routine → List PlacedPart
variables_of p number r = own_between p r.level (block_start p number r.name r.statements) r.statements

abbrev pub frame_parts_in : ProgramRows → (number : ℕ) → Option Routine → List PlacedPart
frame_parts_in p number None = []
frame_parts_in p number (Some r) = parameters_of p r ++ variables_of p number r

-- what the frame of a routine has but for its link and its result: the parameters, and the variables of the block
abbrev pub frame_parts : ProgramRows → (number : ℕ) → List PlacedPart
frame_parts p number = frame_parts_in p number (routine_at p number)
