-- Arrays of conformant parameters: the bounds that a call gave them, and their components (6.6.3.7, 6.6.3.8).
use Rattle.std.specs.Prelude.{if◌then◌else◌, ◌&&◌, ◌*◌, ◌++◌, ◌+◌, ◌-ℤ◌, ◌∷◌, [], ℕ, Bool, List, None, Option, Some}
use Rattle.std.specs.Prelude.{drop, false, flat_map, int_le, length, min, suc, true, unsigned_abs, zero}
use Rattle.cell_value.specs.{Effects.heap_end, declared.values.Value.Value, declared.ways_out.Kind.Kind}
use Rattle.core_program.specs.{Actions.◌>>=◌, Actions.Action, Actions.Fail, Actions.Give, Acts.Fault, Cells.component}
use Rattle.core_program.specs.{Cells.read_value, Cells.read_values, State.moved, declared.rows.TypeRow.TypeRow}
use Rattle.core_program.specs.ProgramRows.{ProgramRows, cells_in, type_at}
use Rattle.core_program.specs.declared.components.{Components.Components, Extent.Extent, HeldSpec.HeldSpec}

-- ---- what the tables say

-- the specs of a conformant array from the outermost inward, and the type and the cells of a component of the innermost
pub record Dimensions : Type 0 where
  pub specs : List HeldSpec
  pub component : ℕ
  pub size : ℕ

abbrev pub extent_in : Option TypeRow → Option Extent
extent_in (Some (TypeRow.Ordinal least greatest)) = Some (record { least = least; greatest = greatest })
extent_in (Some (TypeRow.Subrange host least greatest)) = Some (record { least = least; greatest = greatest })
extent_in t = None

abbrev pub and_spec : (place : ℕ) → Option Extent → Option Dimensions → Option Dimensions
and_spec place (Some e) (Some d) =
    Some (record {
      specs = (record { within = e; place = place }) ∷ d.specs;
      component = d.component;
      size = d.size;
    })
and_spec place e d = None

-- The dimensions of a type that is no conformant array are none, and it is itself a component.
abbrev pub dimensions_in : (inner : ℕ → Option Dimensions) → ProgramRows → (t : ℕ) → Option TypeRow → Option Dimensions
dimensions_in inner p t (Some (TypeRow.Conformant packed index component place)) =
    and_spec place (extent_in (type_at p index)) (inner component)
dimensions_in inner p t (Some row) = Some (record { specs = []; component = t; size = cells_in (Some row) })
dimensions_in inner p t None = None

abbrev pub dimensions_within : ℕ → ProgramRows → (t : ℕ) → Option Dimensions
dimensions_within zero p t = None
dimensions_within (suc n) p t = dimensions_in (dimensions_within n p) p t (type_at p t)

-- No array has more specs than there are rows.
abbrev pub dimensions_of : ProgramRows → (t : ℕ) → Option Dimensions
dimensions_of p t = dimensions_within (length p.rows) p t

abbrev pub extent_before : Option Extent → List Extent → List Extent
extent_before None es = es
extent_before (Some e) es = e ∷ es

-- the extents of an array type from the outermost inward, at most one for each of these specs
abbrev pub fixed_extents : ProgramRows → List HeldSpec → Option TypeRow → List Extent
fixed_extents p [] t = []
fixed_extents p (s ∷ ss) (Some (TypeRow.Array packed index component cells)) =
    extent_before (extent_in (type_at p index)) (fixed_extents p ss (type_at p component))
fixed_extents p (s ∷ ss) t = []

-- For the further specs of a schema, the extents of the components of a conformant array that has these dimensions:
-- such an array of fixed arrays may be the actual of a schema with more specs (6.6.3.8).
abbrev pub inner_extents : ProgramRows → Dimensions → (schema : List HeldSpec) → List Extent
inner_extents p d schema = fixed_extents p (drop (length d.specs) schema) (type_at p d.component)

-- ---- bounds that a frame holds

-- the bound cells of specs, in order, in the frame at a base
abbrev pub bound_cells : (frame : ℕ) → List HeldSpec → List ℕ
bound_cells frame [] = []
bound_cells frame (s ∷ ss) = moved frame s.place ∷ moved frame (s.place + 1) ∷ bound_cells frame ss

-- the values of these cells, after those that were read before
abbrev pub read_each : List Value → List ℕ → Action (List Value)
read_each vs [] = Give vs
read_each vs (addr ∷ addrs) = read_value addr >>= λ v. read_each (vs ++ v ∷ []) addrs

abbrev pub lies_in : Extent → Extent → Bool
lies_in e within = int_le within.least e.least && int_le e.greatest within.greatest

-- Two bounds are values of the spec's type, the least one at most the greatest.
abbrev pub extent_if : Bool → Extent → Option Extent
extent_if true e = Some e
extent_if false e = None

abbrev pub extent_held : HeldSpec → (least greatest : Value) → Option Extent
extent_held s (Value.Number a) (Value.Number b) =
    extent_if (lies_in (record { least = a; greatest = b }) s.within && int_le a b) (record { least = a; greatest = b })
extent_held s v w = None

abbrev pub and_extent : Option Extent → Option (List Extent) → Option (List Extent)
and_extent (Some e) (Some es) = Some (e ∷ es)
and_extent e es = None

abbrev pub extents_held : List HeldSpec → List Value → Option (List Extent)
extents_held [] vs = Some []
extents_held (s ∷ ss) (v ∷ w ∷ vs) = and_extent (extent_held s v w) (extents_held ss vs)
extents_held (s ∷ ss) vs = None

abbrev pub or_undefined : Option (List Extent) → Action (List Extent)
or_undefined (Some es) = Give es
or_undefined None = Fail (Fault Kind.Undefined)

-- the extents of specs in the frame at a base: all bound cells are read, and then tested
abbrev pub extents_at : List HeldSpec → (frame : ℕ) → Action (List Extent)
extents_at specs frame = read_each [] (bound_cells frame specs) >>= λ vs. or_undefined (extents_held specs vs)

-- ---- components

abbrev pub values_over : Extent → ℕ
values_over e = unsigned_abs (e.greatest -ℤ e.least) + 1

-- the cells of an array with these extents, whose innermost components have a size
abbrev pub cells_over : List Extent → (size : ℕ) → ℕ
cells_over [] size = size
cells_over (e ∷ es) size = values_over e * cells_over es size

-- The components of an array by its extents. No variable has more cells than there are addresses.
abbrev pub components_over : List Extent → (size : ℕ) → Option Components
components_over [] size = None
components_over (e ∷ es) size =
    Some (record { least = e.least; greatest = e.greatest; size = min (cells_over es size) heap_end })

abbrev pub component_or_fault : Option Components → (addr : ℕ) → Value → Action ℕ
component_or_fault (Some c) addr v = component c addr v
component_or_fault None addr v = Fail (Fault Kind.Undefined)

-- The component of the array at an address, by the value of its index, where the frame at a base has the bounds. They
-- are read once the index is known: those of the array's spec, and of those further in (6.5.3.2).
abbrev pub conformant_component_at : Dimensions → (addr frame : ℕ) → Value → Action ℕ
conformant_component_at d addr frame v =
    extents_at d.specs frame >>= λ es. component_or_fault (components_over es d.size) addr v

-- an array as a value or an actual: its extents and the values of its cells
pub record WholeArray : Type 0 where
  pub extents : List Extent
  pub cells : List Value

-- all cells of an array from an address on; the read of one that is beyond the heap is a fault
abbrev pub whole_over : List Extent → (size addr : ℕ) → Action WholeArray
whole_over es size addr = read_values [] addr (min (cells_over es size) (heap_end + 1)) >>= λ vs.
    Give (record { extents = es; cells = vs })

-- the bounds are read before the cells
abbrev pub whole_at : Dimensions → (addr frame : ℕ) → Action WholeArray
whole_at d addr frame = extents_at d.specs frame >>= λ es. whole_over es d.size addr

-- ---- what is passed of an array to a section

-- the bounds, the least before the greatest, outermost first
abbrev pub bound_values : List Extent → List Value
bound_values es = flat_map (λ (e : Extent). Value.Number e.least ∷ Value.Number e.greatest ∷ []) es

abbrev pub all_lie_in : List Extent → List HeldSpec → Bool
all_lie_in [] ss = true
all_lie_in (e ∷ es) [] = false
all_lie_in (e ∷ es) (s ∷ ss) = lies_in e s.within && all_lie_in es ss

-- Each bound of the first actual of a section lies in the type of its spec.
abbrev pub bounds_tested : List Extent → List HeldSpec → Action (Unit {0})
bounds_tested es specs = if all_lie_in es specs then Give tt else Fail (Fault Kind.OutOfRange)
