-- A walk over the addresses of a run in search of the cells that a name names: what it may pass over at once.
use Rattle.std.specs.Prelude.{if◌then◌else◌, ◌%◌, ◌++◌, ◌+ℤ◌, ◌+◌, ◌-◌, ◌/◌, ◌<◌, ◌==◌, ◌||◌, ◌≡◌, ◌≤◌, ℕ, Bool, List}
use Rattle.std.specs.Prelude.{None, Option, Some, codes, false, is_some, min, nat_le, nat_lt, pos, slice_get}
use Rattle.std.specs.Prelude.{slice_index_or, suc, true, zero}
use Rattle.core_program.specs.ProgramRows.{ProgramRows, size_of, text_at, type_at}
use Rattle.core_program.specs.declared.{components.Extent.Extent, program.Routine.Routine, rows.TypeRow.TypeRow}
use Rattle.cell_names.specs.{Places.is_begun, Values.bounds_of, Values.within_bounds}
use Rattle.cell_names.specs.Conformant.{cells_held, extent_of, held_in}
use Rattle.cell_names.specs.NamedBy.{after_part, block_text, call_text, is_named_by, is_over, then_part}
use Rattle.cell_names.specs.Names.{Scene, is_result, least_in, record_step, root, root_at, selector_text, spot, step}
use Rattle.cell_names.specs.declared.{places.PlacedPart.PlacedPart, walks.Components.Components, walks.Walked.Walked}
use Rattle.cell_names.specs.declared.names.{Held.Held, Local.Local, Root.Root, Spot.Spot, Step.Step}

-- the cell this many places after another
abbrev pub moved : (k : ℕ) → Spot → Spot
moved k at = spot at.held (at.place + k)

-- what it is the cell of, if that is the same as of the other
abbrev pub moved_step : (k : ℕ) → Option Step → Option Step
moved_step k None = None
moved_step k (Some s) = Some (step s.selector (moved k s.spot))

abbrev pub moved_local : (k : ℕ) → Option Local → Option Local
moved_local k None = None
moved_local k (Some l) = Some (record { token = l.token; spot = moved k l.spot })

abbrev pub moved_root : (k : ℕ) → Root → Root
moved_root k r = root r.origin (moved k r.spot)

abbrev pub is_named_root : Scene → (name : List ℕ) → Option Root → Bool
is_named_root s name None = false
is_named_root s name (Some r) = is_named_by s r name

-- whether there is a name for what has an address, and another name names it
unfoldable pub is_named_at : Scene → (name : List ℕ) → (address : ℕ) → Bool
is_named_at s name address = is_named_root s name (root_at s address)

-- whether a name ends here, or goes on with the variable of a frame
abbrev pub ends_or_dots : (left : Option (List ℕ)) → Bool
ends_or_dots None = false
ends_or_dots (Some rest) = is_over rest || is_some (after_part (codes ".") rest)

-- whether a name is a call's, or one of a variable of its frame; those of the program's variables are their own
abbrev pub is_of_call : ProgramRows → (call routine : ℕ) → (name : List ℕ) → Bool
is_of_call p call routine name = (call == 0) || ends_or_dots (after_part (call_text p call routine) name)

-- whether a name can be that of a variable of the heap, and of one of them
abbrev pub is_of_heap : (name : List ℕ) → Bool
is_of_heap name = is_some (after_part (codes "^") name)

abbrev pub is_of_block : (name : List ℕ) → Option PlacedPart → Bool
is_of_block name None = false
is_of_block name (Some part) = is_some (after_part (block_text part.place) name)

-- the components of an array
abbrev pub components_in : ProgramRows → Option TypeRow → Option Components
components_in p (Some (TypeRow.Array packed index component cells)) = Some (record {
  index = index;
  bounds = bounds_of p index;
  least = least_in (bounds_of p index);
  component = Held.Variable component;
  size = size_of p component;
})
components_in p t = None

-- the components of the array of a conformant parameter, where its bounds are known
abbrev pub components_by : Scene → (call index component : ℕ) → Option Extent → Option Components
components_by s call index component None = None
components_by s call index component (Some e) = Some (record {
  index = index;
  bounds = bounds_of s.program index;
  least = e.least;
  component = held_in s.program call component;
  size = cells_held s.program s.args call component;
})

abbrev pub conformant_components : Scene → (call : ℕ) → Option TypeRow → Option Components
conformant_components s call (Some (TypeRow.Conformant packed index component place)) =
    components_by s call index component (extent_of s.program s.args call index place)
conformant_components s call t = None

abbrev pub components_of : Scene → Held → Option Components
components_of s (Held.Variable of') = components_in s.program (type_at s.program of')
components_of s (Held.Conformant call of') = conformant_components s call (type_at s.program of')
components_of s h = None

-- whether a name goes on with the index of the component that has a place of an array
abbrev pub index_text : ProgramRows → Components → (which : ℕ) → List ℕ
index_text p a which = codes "[" ++ within_bounds p (a.least +ℤ pos which) a.bounds ++ codes "]"

abbrev pub is_indexed_by : ProgramRows → Components → (place size : ℕ) → (name : List ℕ) → Bool
is_indexed_by p a place zero name = false
is_indexed_by p a place (suc n) name = is_some (after_part (index_text p a (place / suc n)) name)

abbrev pub is_indexed : ProgramRows → Components → (place : ℕ) → (name : List ℕ) → Bool
is_indexed p a place name = is_indexed_by p a place a.size name

-- the type of the record that a cell is of
abbrev pub record_in : (of' : ℕ) → Option TypeRow → Option ℕ
record_in of' (Some (TypeRow.Record packed region cells variants)) = Some of'
record_in of' t = None

abbrev pub record_of : ProgramRows → Held → Option ℕ
record_of p (Held.Variable of') = record_in of' (type_at p of')
record_of p h = None

-- whether a name goes on with a field or a tag of a record
abbrev pub goes_by : ProgramRows → Option Step → (name : List ℕ) → Bool
goes_by p None name = false
goes_by p (Some s) name = is_some (after_part (selector_text p s.selector) name)

-- whether it may: it has the text of a token after a `.`, or `.case`
abbrev pub may_select : ProgramRows → (token : ℕ) → (name : List ℕ) → Bool
may_select p token name =
    is_some (then_part (text_at p token) (after_part (codes ".") name)) || is_some (after_part (codes ".case") name)

abbrev pub is_selected : ProgramRows → Option PlacedPart → (name : List ℕ) → Bool
is_selected p part name = goes_by p (record_step p 0 part) name

-- whether what is left of a name goes on with a variable of a frame
abbrev pub is_of_local : ProgramRows → (left : List ℕ) → Option PlacedPart → Bool
is_of_local p left None = false
is_of_local p left (Some part) = is_some (after_part (text_at p part.number) left)

-- whether a name can be that of a variable of a frame
abbrev pub is_of_routine : Scene → (call : ℕ) → (routine : Option ℕ) → (name : List ℕ) → Bool
is_of_routine s call None name = false
is_of_routine s call (Some routine) name = is_of_call s.program call routine name

abbrev pub is_of_frame : Scene → Option PlacedPart → (name : List ℕ) → Bool
is_of_frame s None name = false
is_of_frame s (Some part) name = is_of_routine s part.number (slice_get s.routines part.number) name

-- the same of what has a place of a record, and of a frame whose routine has its result at a place; copies are not
-- looked at
abbrev pub is_selected_at : Scene → (owner place : ℕ) → (name : List ℕ) → Bool
is_selected_at s owner place name = is_selected s.program (s.finding.component owner place) name

abbrev pub is_local_at : Scene → (number : ℕ) → Routine → (place : ℕ) → (left : List ℕ) → Bool
is_local_at s number r place left =
    nat_le r.cells place || (is_result r.result place || is_of_local s.program left (s.finding.frame number place))

-- none of the numbers after one, up to another, are such
abbrev pub NoneAfter : (such : ℕ → Bool) → (first last : ℕ) → Type 0
NoneAfter such first last = (k : ℕ) → first < k → k ≤ last → such k ≡ false

-- none of some parts is such, from one of them on to before another
abbrev pub NoneFrom : (such : Option PlacedPart → Bool) → List PlacedPart → (first last : ℕ) → Type 0
NoneFrom such parts first last =
    (k : ℕ) (d : PlacedPart) → first ≤ k → k < last → such (Some (slice_index_or parts k d)) ≡ false

-- what was found of the cells from one on, which are told by their distance: the first is named, or this many more
-- than the first are not
abbrev pub WalksOver : Scene → (name : List ℕ) → (roots : ℕ → Option Root) → Walked → Type 0
WalksOver s name roots (Walked.Named r) = (roots 0 ≡ Some r) × (is_named_by s r name ≡ true)
WalksOver s name roots (Walked.Unnamed more) = (k : ℕ) → k ≤ more → is_named_root s name (roots k) ≡ false

-- the same of what has an address, and of the addresses after it
abbrev pub Walks : Scene → (name : List ℕ) → (address : ℕ) → Walked → Type 0
Walks s name address (Walked.Named r) = (root_at s address ≡ Some r) × (is_named_by s r name ≡ true)
Walks s name address (Walked.Unnamed more) = (k : ℕ) → k ≤ more → is_named_at s name (address + k) ≡ false

-- how many cells after one are of the same component of an array
abbrev pub left_of_component : (place size : ℕ) → ℕ
left_of_component place zero = 0
left_of_component place (suc n) = n - place % suc n

-- how many places after one, of this many, are before that of a function's result
abbrev pub before_result : (result_place : Option ℕ) → (place more : ℕ) → ℕ
before_result None place more = more
before_result (Some at) place more = if nat_lt place at then min more (at - place - 1) else more

-- how many places after one, of this many, are before a copy, if that begins after it
abbrev pub before_copy : (place : ℕ) → Option PlacedPart → (more : ℕ) → Option ℕ
before_copy place None more = Some more
before_copy place (Some copy) more = if is_begun place copy then None else Some (min more (copy.place - place - 1))

-- how many places before the end of a frame without its copies there are after one, of this many; beyond that none
abbrev pub before_end : (cells place more : ℕ) → ℕ
before_end cells place more = min more (cells - place - 1)

-- no more than this many are passed over
abbrev pub limited : Walked → (more : ℕ) → Walked
limited (Walked.Named r) more = Walked.Named r
limited (Walked.Unnamed m) more = Walked.Unnamed (min m more)
