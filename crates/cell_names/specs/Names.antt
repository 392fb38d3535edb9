-- Names of cells: the variable, whose it is, and the selectors on the way down to the cell (ISO 7185, 6.5).
use Rattle.std.specs.Prelude.{if◌then◌else◌, ◌%◌, ◌&&◌, ◌++◌, ◌+ℤ◌, ◌-◌, ◌/◌, ◌==◌, [], ℕ, ℤ, Bool, List, None, Option}
use Rattle.std.specs.Prelude.{Some, codes, decimal, false, nat_le, nat_lt, pos, slice_get, suc, zero}
use Rattle.cell_value.specs.{Effects.heap_start, declared.values.Value.Value}
use Rattle.core_program.specs.ProgramRows.{ProgramRows, name_of, routine_at, row_at, size_of, text_at, type_at}
use Rattle.core_program.specs.declared.{components.Extent.Extent, program.Routine.Routine}
use Rattle.core_program.specs.declared.rows.{Mode.Mode, NameRow.NameRow, PartRow.PartRow, Row.Row, TypeRow.TypeRow}
use Rattle.cell_names.specs.{Conformant.reference_in, Finding.Finding, Finding.NameLists, Finding.finding_in}
use Rattle.cell_names.specs.{Layouts.part, Places.finds, Places.is_begun, Values.bounds_of, Values.heap_number}
use Rattle.cell_names.specs.{Values.ordinal_text, declared.places.PlacedPart.PlacedPart, declared.values.Bounds.Bounds}
use Rattle.cell_names.specs.Conformant.{Arguments, arguments_in, cells_held, extent_of, held_in, is_sought, most_specs}
use Rattle.cell_names.specs.declared.names.{CopyCells.CopyCells, Frame.Frame, Held.Held, Local.Local, Origin.Origin}
use Rattle.cell_names.specs.declared.names.{Root.Root, Selector.Selector, Spot.Spot, Step.Step}

-- What the names of cells stand on: a program and what is found in it by its place; of each call of its run the
-- routine, and what it was entered with; and the calls that are open, by the places where their frames begin.
pub record Scene : Type 0 where
  pub program : ProgramRows
  pub finding : Finding
  pub routines : List ℕ
  pub args : Arguments
  pub opened : (address : ℕ) → Option PlacedPart

-- the same, by the lists in which it is found
pub record SceneLists : Type 0 where
  pub program : ProgramRows
  pub names : NameLists
  pub routines : List ℕ
  pub args : List (List Value)
  pub opened : List PlacedPart

abbrev pub scene_in : SceneLists → Scene
scene_in s = record {
  program = s.program;
  finding = finding_in s.names;
  routines = s.routines;
  args = arguments_in s.args;
  opened = finds s.opened;
}

abbrev pub spot : Held → (place : ℕ) → Spot
spot h place = record { held = h; place = place }

abbrev pub step : Selector → Spot → Step
step by to = record { selector = by; spot = to }

abbrev pub least_in : Option Bounds → ℤ
least_in None = pos 0
least_in (Some b) = b.least

-- the component of an array that has a place of it
abbrev pub array_step : (index : ℕ) → (least : ℤ) → (component : Held) → (place size : ℕ) → Option Step
array_step index least h place zero = None
array_step index least h place (suc n) =
    Some (step (Selector.Index index (least +ℤ pos (place / suc n))) (spot h (place % suc n)))

abbrev pub field_step : (number place : ℕ) → Row → Option Step
field_step number place (Row.Name (NameRow.Field of' offset holder)) =
    Some (step (Selector.Field number) (spot (Held.Variable of') place))
field_step number place (Row.Name (NameRow.Tag of' offset holder variants)) =
    Some (step (Selector.Field number) (spot (Held.Variable of') place))
field_step number place (Row.Part r) = Some (step Selector.Case (spot Held.HiddenTag place))
field_step number place r = None

-- the field or the tag of a record that has a place of it
abbrev pub record_step : ProgramRows → (place : ℕ) → Option PlacedPart → Option Step
record_step p place None = None
record_step p place (Some part) = field_step part.number (place - part.place) (row_at p part.number)

abbrev pub typed_step : Scene → (of' place : ℕ) → Option TypeRow → Option Step
typed_step s of' place (Some (TypeRow.Array packed index component cells)) =
    array_step index (least_in (bounds_of s.program index)) (Held.Variable component) place
    (size_of s.program component)
typed_step s of' place (Some (TypeRow.Record packed region cells variants)) =
    record_step s.program place (s.finding.component of' place)
typed_step s of' place t = None

-- the same by the bounds that are held, if there are such
abbrev pub extent_step : (index : ℕ) → Option Extent → (component : Held) → (place size : ℕ) → Option Step
extent_step index None h place size = None
extent_step index (Some e) h place size = array_step index e.least h place size

-- the component of the array of a conformant parameter, of which a call has the bounds
abbrev pub conformant_step : Scene → (call place : ℕ) → Option TypeRow → Option Step
conformant_step s call place (Some (TypeRow.Conformant packed index component at)) =
    extent_step index (extent_of s.program s.args call index at) (held_in s.program call component) place
    (cells_held s.program s.args call component)
conformant_step s call place t = None

abbrev pub step_by : Scene → (place : ℕ) → Held → Option Step
step_by s place (Held.Variable of') = typed_step s of' place (type_at s.program of')
step_by s place (Held.Conformant call of') = conformant_step s call place (type_at s.program of')
step_by s place h = None

-- one step down to the cell at a place of a variable: the component of an array, or the field or the tag of a record
unfoldable pub step_down : Scene → Spot → Option Step
step_down s at = step_by s at.place at.held

-- a selector: an index by the text of its value
abbrev pub selector_text : ProgramRows → Selector → List ℕ
selector_text p (Selector.Index of' value) = codes "[" ++ ordinal_text p of' value ++ codes "]"
selector_text p (Selector.Field number) = codes "." ++ text_at p number
selector_text p Selector.Case = codes ".case"

-- whether the way down ends here, since this is the variable that is wanted
abbrev pub is_wanted : Scene → (wanted : Option Held) → Spot → Bool
is_wanted s None at = false
is_wanted s (Some h) at = is_sought most_specs s.program s.args h at.held

-- the selectors on a way down, and where it ends
pub record WayDown : Type 0 where
  pub text : List ℕ
  pub end : Spot

abbrev pub way_here : Spot → WayDown
way_here at = record { text = []; end = at }

abbrev pub way_after : List ℕ → WayDown → WayDown
way_after text w = record { text = text ++ w.text; end = w.end }

abbrev pub way_by : ProgramRows → (go : Spot → WayDown) → Spot → Option Step → WayDown
way_by p go at None = way_here at
way_by p go at (Some s) = way_after (selector_text p s.selector) (go s.spot)

-- the next step down, unless the way ends here
abbrev pub next_step : Scene → (wanted : Option Held) → Spot → Option Step
next_step s wanted at = if is_wanted s wanted at then None else step_down s at

-- The way down to a cell: to the cell itself, or to the first variable on it that is wanted. At most this many steps
-- are taken.
abbrev pub way_within : Scene → (wanted : Option Held) → (most : ℕ) → Spot → WayDown
way_within s wanted zero at = way_here at
way_within s wanted (suc most) at = way_by s.program (way_within s wanted most) at (next_step s wanted at)

-- more than the types that a source of 1,048,576 bytes has
unfoldable pub most_types : ℕ
most_types = 1048576

abbrev pub way_down : Scene → (wanted : Option Held) → Spot → WayDown
way_down s wanted at = way_within s wanted most_types at

abbrev pub result_of : Row → Option ℕ
result_of (Row.Part (PartRow.Heading name sections result)) = result
result_of r = None

abbrev pub local : (token : ℕ) → Held → (place : ℕ) → Local
local token h place = record { token = token; spot = spot h place }

abbrev pub result_local : Routine → Option ℕ → Option Local
result_local r None = None
result_local r (Some of') = Some (local r.name (Held.Variable of') 0)

-- What a token names in the frame of a call. The cell of a conformant parameter by value has the address of its copy.
abbrev pub named_local : ProgramRows → (call token place : ℕ) → Row → Option Local
named_local p call token place (Row.Name (NameRow.Variable Mode.Place of' at level)) =
    Some (local token (reference_in p call of') place)
named_local p call token place (Row.Name (NameRow.Variable Mode.Copy of' at level)) =
    Some (local token (reference_in p call of') place)
named_local p call token place (Row.Name (NameRow.Variable mode' of' at level)) =
    Some (local token (Held.Variable of') place)
named_local p call token place (Row.Name (NameRow.Bound of' at level)) = Some (local token (Held.Variable of') place)
named_local p call token place (Row.Name (NameRow.RoutineFormal at level heading)) =
    Some (local token Held.Routine place)
named_local p call token place r = None

abbrev pub part_local : ProgramRows → (call place : ℕ) → Option PlacedPart → Option Local
part_local p call place None = None
part_local p call place (Some part) = named_local p call part.number (place - part.place) (row_at p part.number)

-- ---- copies of conformant parameters by value

abbrev pub address_held : Option Value → Option ℕ
address_held (Some (Value.Place address)) = Some address
address_held v = None

-- the address of its copy, if this is such a parameter and its cell holds this
abbrev pub copy_address : Row → Option Value → Option ℕ
copy_address (Row.Name (NameRow.Variable Mode.Copy of' at level)) v = address_held v
copy_address r v = None

abbrev pub copy_from : (top number : ℕ) → (address : Option ℕ) → Option PlacedPart
copy_from top number None = None
copy_from top number (Some address) = Some (part (address - top) number)

-- the copy of what was found in a frame, by its place there, if that has one
abbrev pub copy_of : Scene → Frame → PlacedPart → Option PlacedPart
copy_of s f x = copy_from f.top x.number (copy_address (row_at s.program x.number) (s.args f.call x.place))

abbrev pub begun_or : (place : ℕ) → (rest : Option PlacedPart) → Option PlacedPart → Option PlacedPart
begun_or place rest None = rest
begun_or place rest (Some copy) = if is_begun place copy then Some copy else rest

abbrev pub copy_by : Scene → Frame → (place : ℕ) → (go : (from : ℕ) → Option PlacedPart) → Option PlacedPart
    → Option PlacedPart
copy_by s f place go None = None
copy_by s f place go (Some x) = begun_or place (go (x.place - 1)) (copy_of s f x)

-- the last of the parameters from a place of a frame back whose copy begins at another place or before it, of which at
-- most this many are gone through
abbrev pub copy_before : Scene → Frame → (place most from : ℕ) → Option PlacedPart
copy_before s f place zero from = None
copy_before s f place (suc most) from =
    copy_by s f place (copy_before s f place most) (s.finding.frame f.routine from)

abbrev pub array_local : (call token place : ℕ) → Row → Option Local
array_local call token place (Row.Name (NameRow.Variable mode' of' at level)) =
    Some (local token (Held.Conformant call of') place)
array_local call token place r = None

abbrev pub copied_local : ProgramRows → (call place : ℕ) → Option PlacedPart → Option Local
copied_local p call place None = None
copied_local p call place (Some copy) = array_local call copy.number (place - copy.place) (row_at p copy.number)

-- the copy that has a place of a frame
abbrev pub copy_local : Scene → Frame → (place : ℕ) → Routine → Option Local
copy_local s f place r =
    copied_local s.program f.call place (copy_before s f place r.parameters (r.parameters - 1))

abbrev pub is_result : Option ℕ → (place : ℕ) → Bool
is_result None place = false
is_result (Some at) place = at == place

abbrev pub local_in : Scene → Frame → (place : ℕ) → Option Routine → Option Local
local_in s f place None = None
local_in s f place (Some r) =
    if place == 0 then None
    else if nat_le r.cells place then copy_local s f place r
    else if is_result r.result place then result_local r (result_of (row_at s.program r.heading))
    else part_local s.program f.call place (s.finding.frame f.routine place)

-- What has a place of a call's frame: a parameter or a variable by its name, the result of a function by the
-- function's, and behind them the copies of parameters by the names of these. The first cell of a frame, its link, has
-- no name.
unfoldable pub local_at : Scene → Frame → (place : ℕ) → Option Local
local_at s f place = local_in s f place (routine_at s.program f.routine)

abbrev pub cells_of_copy : Scene → Frame → Option PlacedPart → Row → Option CopyCells
cells_of_copy s f (Some copy) (Row.Name (NameRow.Variable mode' of' at level)) =
    Some (record { place = copy.place; cells = cells_held s.program s.args f.call of' })
cells_of_copy s f copy r = None

abbrev pub copy_cells_of : Scene → Frame → (place : ℕ) → Option PlacedPart → Option CopyCells
copy_cells_of s f place None = None
copy_cells_of s f place (Some x) =
    if x.place == place then cells_of_copy s f (copy_of s f x) (row_at s.program x.number) else None

-- the copy of the parameter at a place of a frame, if that is a conformant one by value
unfoldable pub copy_cells : Scene → Frame → (place : ℕ) → Option CopyCells
copy_cells s f place = copy_cells_of s f place (s.finding.frame f.routine place)

abbrev pub root : Origin → Spot → Root
root from at = record { origin = from; spot = at }

abbrev pub local_root : (call routine : ℕ) → Option Local → Option Root
local_root call routine None = None
local_root call routine (Some l) = Some (root (Origin.Local call routine l.token) l.spot)

abbrev pub frame : (call routine top : ℕ) → Frame
frame call routine top = record { call = call; routine = routine; top = top }

abbrev pub root_in : Scene → (call top place : ℕ) → (routine : Option ℕ) → Option Root
root_in s call top place None = None
root_in s call top place (Some routine) = local_root call routine (local_at s (frame call routine top) place)

abbrev pub stack_root : Scene → (address : ℕ) → Option PlacedPart → Option Root
stack_root s address None = None
stack_root s address (Some part) =
    root_in s part.number part.place (address - part.place) (slice_get s.routines part.number)

abbrev pub heap_root : (address : ℕ) → Option PlacedPart → Option Root
heap_root address None = None
heap_root address (Some part) =
    Some (root (Origin.Heap part.place) (spot (Held.Variable part.number) (address - part.place)))

-- What has an address: a variable of the heap, or what has its place in the frame of the innermost open call whose
-- frame begins there or before.
unfoldable pub root_at : Scene → (address : ℕ) → Option Root
root_at s address =
    if nat_le heap_start address then heap_root address (s.finding.block address)
    else stack_root s address (s.opened address)

abbrev pub begins_there : (address : ℕ) → Option PlacedPart → Bool
begins_there address None = false
begins_there address (Some part) = part.place == address

-- whether the cell at an address is the first one of the frame of an open call: its link to the frame in which its
-- routine was declared
abbrev pub is_link : Scene → (address : ℕ) → Bool
is_link s address = nat_lt address heap_start && begins_there address (s.opened address)

-- whose a variable of a call is, where it is none of call 0
abbrev pub whose_text : ProgramRows → (call routine : ℕ) → List ℕ
whose_text p call routine = if call == 0 then [] else name_of p routine ++ codes "#" ++ decimal call ++ codes "."

abbrev pub origin_text : ProgramRows → Origin → List ℕ
origin_text p (Origin.Heap base) = codes "^" ++ decimal (heap_number base) ++ codes "^"
origin_text p (Origin.Local call routine token) = whose_text p call routine ++ text_at p token

-- the name of a cell: what the way down begins at, and the selectors
abbrev pub cell_text : Scene → (wanted : Option Held) → Root → List ℕ
cell_text s wanted r = origin_text s.program r.origin ++ (way_down s wanted r.spot).text

-- what a cell is
abbrev pub cell_held : Scene → (wanted : Option Held) → Root → Held
cell_held s wanted r = (way_down s wanted r.spot).end.held

-- what stands for the name of a cell that has none; no name begins with a word and a blank
abbrev pub address_text : (address : ℕ) → List ℕ
address_text address = codes "cell " ++ decimal address

-- the name of what has an address
abbrev pub root_text : Scene → (wanted : Option Held) → (address : ℕ) → Option Root → List ℕ
root_text s wanted address None = address_text address
root_text s wanted address (Some r) = cell_text s wanted r

-- the name of the variable that is wanted and has an address: the first such on the way down to the cell there
abbrev pub variable_name : Scene → (wanted : Held) → (address : ℕ) → List ℕ
variable_name s wanted address = root_text s (Some wanted) address (root_at s address)
