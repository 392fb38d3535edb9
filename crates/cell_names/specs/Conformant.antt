-- Arrays of conformant parameters: the bounds that a call was given, their cells, and which variables conform to a
-- schema and have the same bounds (ISO 7185, 6.6.3.7, 6.6.3.8).
use Rattle.std.specs.Prelude.{if◌then◌else◌, ◌&&◌, ◌*◌, ◌+◌, ◌==◌, ℕ, Bool, List, None, Option, Some, false, map, min}
use Rattle.std.specs.{Prelude.slice_get, Prelude.suc, Prelude.zero, Ordering.int_eq}
use Rattle.cell_value.specs.{Effects.heap_end, declared.values.Value.Value}
use Rattle.core_program.specs.{Headings.same_packing, declared.components.Extent.Extent, declared.rows.TypeRow.TypeRow}
use Rattle.core_program.specs.Conformant.{extent_held, extent_in, values_over}
use Rattle.core_program.specs.ProgramRows.{ProgramRows, size_of, type_at}
use Rattle.call_tree.specs.declared.records.Call.{Call}
use Rattle.cell_names.specs.{Values.bounds_of, declared.names.Held.Held, declared.values.Bounds.Bounds}
use Rattle.cell_names.specs.declared.conformant.{HeldArray.HeldArray, Sought.Sought, SpecIndices.SpecIndices}

-- what a run entered each of its calls with, by the place in the frame: the link, the parameters, and the copies
abbrev pub Arguments : Type 0
Arguments = (call place : ℕ) → Option Value

abbrev pub argument_by : (place : ℕ) → Option (List Value) → Option Value
argument_by place None = None
argument_by place (Some args) = slice_get args place

abbrev pub arguments_in : List (List Value) → Arguments
arguments_in lists = λ call place. argument_by place (slice_get lists call)

abbrev pub args_of : List Call → List (List Value)
args_of calls = map (λ (c : Call). c.args) calls

abbrev pub arguments_of : List Call → Arguments
arguments_of calls = arguments_in (args_of calls)

-- ---- bounds

abbrev pub extent_by : (within : Option Extent) → (place : ℕ) → (least greatest : Option Value) → Option Extent
extent_by (Some within) place (Some v) (Some w) = extent_held (record { within = within; place = place }) v w
extent_by within place v w = None

-- places of a frame end with the last of 32 bits
abbrev pub next_place : (place : ℕ) → ℕ
next_place place = min (place + 1) 4294967295

-- the bounds by a spec, of which the least stands at a place of the frame and the greatest at the next one
abbrev pub extent_of : ProgramRows → Arguments → (call index place : ℕ) → Option Extent
extent_of p args call index place =
    extent_by (extent_in (type_at p index)) place (args call place) (args call (next_place place))

-- how many indices there are, which are none without bounds
abbrev pub indices_of : Option Extent → ℕ
indices_of None = 0
indices_of (Some e) = values_over e

-- ---- cells

-- more than the specs that a source of 1,048,576 bytes has
unfoldable pub most_specs : ℕ
most_specs = 1048576

-- no variable has more cells than there are addresses
abbrev pub times : (many each : ℕ) → ℕ
times many each = min (many * each) heap_end

-- a spec: how many indices a call has of it, and the type of its components
abbrev pub spec_in : ProgramRows → Arguments → (call : ℕ) → Option TypeRow → Option SpecIndices
spec_in p args call (Some (TypeRow.Conformant packed index component place)) =
    Some (record { indices = indices_of (extent_of p args call index place); component = component })
spec_in p args call t = None

abbrev pub cells_by : (go : (many of' : ℕ) → ℕ) → ProgramRows → (many of' : ℕ) → Option SpecIndices → ℕ
cells_by go p many of' None = times many (size_of p of')
cells_by go p many of' (Some spec) = go (times many spec.indices) spec.component

abbrev pub cells_within : (most : ℕ) → ProgramRows → Arguments → (call many of' : ℕ) → ℕ
cells_within zero p args call many of' = 0
cells_within (suc n) p args call many of' =
    cells_by (cells_within n p args call) p many of' (spec_in p args call (type_at p of'))

-- the cells of a variable of a type, of whose conformant arrays a call has the bounds
unfoldable pub cells_held : ProgramRows → Arguments → (call of' : ℕ) → ℕ
cells_held p args call of' = cells_within most_specs p args call 1 of'

-- ---- arrays

abbrev pub held_by : (call of' : ℕ) → Option TypeRow → Held
held_by call of' (Some (TypeRow.Conformant packed index component place)) = Held.Conformant call of'
held_by call of' t = Held.Variable of'

-- a variable of a type, of whose conformant arrays a call has the bounds
abbrev pub held_in : ProgramRows → (call of' : ℕ) → Held
held_in p call of' = held_by call of' (type_at p of')

abbrev pub reference_by : (call of' : ℕ) → Option TypeRow → Held
reference_by call of' (Some (TypeRow.Conformant packed index component place)) = Held.ConformantReference call of'
reference_by call of' t = Held.Reference of'

-- the address of such a variable
abbrev pub reference_in : ProgramRows → (call of' : ℕ) → Held
reference_in p call of' = reference_by call of' (type_at p of')

abbrev pub fixed_array : ProgramRows → Option TypeRow → Option HeldArray
fixed_array p (Some (TypeRow.Array packed index component cells)) =
    Some (record {
      packed = packed;
      index = index;
      extent = extent_in (type_at p index);
      component = Held.Variable component;
    })
fixed_array p t = None

abbrev pub conformant_array : ProgramRows → Arguments → (call : ℕ) → Option TypeRow → Option HeldArray
conformant_array p args call (Some (TypeRow.Conformant packed index component place)) =
    Some (record {
      packed = packed;
      index = index;
      extent = extent_of p args call index place;
      component = held_in p call component;
    })
conformant_array p args call t = None

-- what a variable is as an array, if it is one
abbrev pub array_in : ProgramRows → Arguments → Held → Option HeldArray
array_in p args (Held.Variable of') = fixed_array p (type_at p of')
array_in p args (Held.Conformant call of') = conformant_array p args call (type_at p of')
array_in p args h = None

-- ---- which variable a conformant parameter stands for

abbrev pub same_host : Option Bounds → Option Bounds → Bool
same_host (Some a) (Some b) = a.host == b.host
same_host a b = false

abbrev pub same_extent : Option Extent → Option Extent → Bool
same_extent (Some a) (Some b) = int_eq a.least b.least && int_eq a.greatest b.greatest
same_extent a b = false

-- Two arrays have compatible index types and the same bounds, and both are packed or neither is.
abbrev pub are_alike : ProgramRows → HeldArray → HeldArray → Bool
are_alike p a b =
    same_packing a.packed b.packed && same_host (bounds_of p a.index) (bounds_of p b.index)
    && same_extent a.extent b.extent

abbrev pub type_sought : (of' : ℕ) → Held → Sought
type_sought of' (Held.Variable t) = Sought.Ends (t == of')
type_sought of' h = Sought.Ends false

abbrev pub components_sought : ProgramRows → (wanted found : Option HeldArray) → Sought
components_sought p (Some w) (Some h) =
    if are_alike p w h then Sought.GoesOn w.component h.component else Sought.Ends false
components_sought p w h = Sought.Ends false

-- whether a variable is the one that is wanted, as far as this can be told without their components
abbrev pub sought_here : ProgramRows → Arguments → (wanted found : Held) → Sought
sought_here p args (Held.Variable of') h = type_sought of' h
sought_here p args (Held.Conformant call of') h =
    components_sought p (array_in p args (Held.Conformant call of')) (array_in p args h)
sought_here p args w h = Sought.Ends false

abbrev pub sought_by : (go : (wanted found : Held) → Bool) → Sought → Bool
sought_by go (Sought.Ends is) = is
sought_by go (Sought.GoesOn w h) = go w h

-- Whether a variable is the one that is wanted: of this very type; or of a conformant array one that conforms to its
-- schema and has the bounds that a call has of it. Of a schema at most this many specs are looked at.
abbrev pub is_sought : (most : ℕ) → ProgramRows → Arguments → (wanted found : Held) → Bool
is_sought zero p args w h = false
is_sought (suc n) p args w h = sought_by (is_sought n p args) (sought_here p args w h)
