-- The arrays of conformant parameters, by what the tables say of their types.
use Rattle.std.specs.Prelude.{◌++◌, ◌∷◌, [], ℕ, Bool, List, None, Option, Some, false, true}
use Rattle.cell_value.specs.declared.values.Value.{Value}
use Rattle.core_program.specs.{Expressions.text_whole, ProgramRows.ProgramRows, ProgramRows.type_at, State.moved}
use Rattle.core_program.specs.Actions.{◌>>=◌, Action, Give, NoMeaning}
use Rattle.core_program.specs.Cells.{frame_out, read_value, read_values, referred}
use Rattle.core_program.specs.Conformant.{Dimensions, WholeArray, bound_values, bounds_tested, conformant_component_at}
use Rattle.core_program.specs.Conformant.{dimensions_of, extents_at, fixed_extents, inner_extents, whole_at}
use Rattle.core_program.specs.declared.{components.Extent.Extent, components.HeldSpec.HeldSpec, rows.TypeRow.TypeRow}
use Rattle.eval_ops.specs.{Arrays.size_in, declared.conformant.ArrayWhole.ArrayWhole}
use Rattle.eval_ops.specs.declared.dimensions.Dimensions.{Dimensions as HeldDimensions}
use Rattle.eval_ops.specs.declared.passed_arrays.ArrayActual.{ArrayActual as HeldActual}

-- the dimensions of an array, and an array, that the code holds
abbrev pub dimensions : HeldDimensions → Dimensions
dimensions d = record { specs = d.specs.items; component = d.component; size = d.size }

abbrev pub whole : ArrayWhole → WholeArray
whole w = record { extents = w.extents.items; cells = w.cells }

-- what the tables give of a type; where they give nothing, no action is meant
abbrev pub or_not_meant : {A : Type 0} → Option A → Action A
or_not_meant (Some x) = Give x
or_not_meant None = NoMeaning

-- the index type and the component type of an array
abbrev pub array_types : Option TypeRow → Option (ℕ × ℕ)
array_types (Some (TypeRow.Array packed index component cells)) = Some (index, component)
array_types t = None

-- The type of the spec, the component type and the place of the least bound, of a type that is a conformant array.
abbrev pub spec_parts : Option TypeRow → Option (ℕ × ℕ × ℕ)
spec_parts (Some (TypeRow.Conformant packed index component place)) = Some (index, component, place)
spec_parts t = None

-- a component without specs, by its cells if its type is there; and with specs before those that it has
abbrev pub no_dimensions : (component : ℕ) → (size : Option ℕ) → Option Dimensions
no_dimensions component None = None
no_dimensions component (Some size) = Some (record { specs = []; component = component; size = size })

abbrev pub and_specs : List HeldSpec → Option Dimensions → Option Dimensions
and_specs specs None = None
and_specs specs (Some d) =
    Some (record { specs = specs ++ d.specs; component = d.component; size = d.size })

abbrev pub dimensions_meant : ProgramRows → (t : ℕ) → Action Dimensions
dimensions_meant p t = or_not_meant (dimensions_of p t)

-- the array of a conformant parameter at a place in the frame to which this many links lead, and that frame
abbrev pub conformant_out : (levels base place : ℕ) → Action (ℕ × ℕ)
conformant_out levels base place =
    frame_out levels base >>= λ frame. referred (moved frame place) >>= λ addr. Give (addr, frame)

-- the value of a cell, after those that were read before
abbrev pub read_onto : List Value → (addr : ℕ) → Action (List Value)
read_onto vs addr = read_value addr >>= λ v. Give (vs ++ v ∷ [])

-- a component of a conformant array of a type
abbrev pub conformant_component : ProgramRows → (array addr frame : ℕ) → Value → Action ℕ
conformant_component p array addr frame v = dimensions_meant p array >>= λ d. conformant_component_at d addr frame v

-- a conformant array of a type as a value
abbrev pub conformant_whole : ProgramRows → (t addr frame : ℕ) → Action WholeArray
conformant_whole p t addr frame = dimensions_meant p t >>= λ d. whole_at d addr frame

-- ---- actuals of conformant parameters

-- the extents of a conformant array for the specs of a schema
abbrev pub conformant_extents : ProgramRows → List HeldSpec → (t frame : ℕ) → Action (List Extent)
conformant_extents p schema t frame = dimensions_meant p t >>= λ d. extents_at d.specs frame >>= λ es.
    Give (es ++ inner_extents p d schema)

-- the same array as a value
abbrev pub conformant_copied : ProgramRows → List HeldSpec → (t addr frame : ℕ) → Action WholeArray
conformant_copied p schema t addr frame = dimensions_meant p t >>= λ d. whole_at d addr frame >>= λ w.
    Give (record { extents = w.extents ++ inner_extents p d schema; cells = w.cells })

-- an array of a fixed type as a value
abbrev pub fixed_copied : ProgramRows → List HeldSpec → (t addr : ℕ) → Action WholeArray
fixed_copied p schema t addr = or_not_meant (size_in (type_at p t)) >>= λ cells. read_values [] addr cells >>= λ vs.
    Give (record { extents = fixed_extents p schema (type_at p t); cells = vs })

-- The bounds that an actual passes: the first one of its section those of its extents, once they are tested for the
-- types of the specs, and a further one none.
abbrev pub bounds_passed : (first : Bool) → List HeldSpec → List Extent → Action (List Value)
bounds_passed true schema es = bounds_tested es schema >>= λ _. Give (bound_values es)
bounds_passed false schema es = Give []

-- what is passed of an array by value: bounds, and the values of its cells
pub record ArrayActual : Type 0 where
  pub bounds : List Value
  pub cells : List Value

abbrev pub actual : HeldActual → ArrayActual
actual a = record { bounds = a.bounds; cells = a.cells }

abbrev pub whole_passed : (first : Bool) → List HeldSpec → WholeArray → Action ArrayActual
whole_passed first schema w =
    bounds_passed first schema w.extents >>= λ bs. Give (record { bounds = bs; cells = w.cells })

-- By the type of the parameter, the bounds that a conformant array passes, and an array of a fixed type.
abbrev pub place_bounds : ProgramRows → (first : Bool) → (of' t frame : ℕ) → Action (List Value)
place_bounds p first of' t frame = dimensions_meant p of' >>= λ s. conformant_extents p s.specs t frame >>= λ es.
    bounds_passed first s.specs es

abbrev pub fixed_bounds : ProgramRows → (first : Bool) → (of' t : ℕ) → Action (List Value)
fixed_bounds p first of' t =
    dimensions_meant p of' >>= λ s. bounds_passed first s.specs (fixed_extents p s.specs (type_at p t))

-- the same by value, of a string too
abbrev pub conformant_actual : ProgramRows → (first : Bool) → (of' t addr frame : ℕ) → Action ArrayActual
conformant_actual p first of' t addr frame =
    dimensions_meant p of' >>= λ s. conformant_copied p s.specs t addr frame >>= λ w. whole_passed first s.specs w

abbrev pub fixed_actual : ProgramRows → (first : Bool) → (of' t addr : ℕ) → Action ArrayActual
fixed_actual p first of' t addr =
    dimensions_meant p of' >>= λ s. fixed_copied p s.specs t addr >>= λ w. whole_passed first s.specs w

abbrev pub text_actual : ProgramRows → (first : Bool) → (of' : ℕ) → List Value → Action ArrayActual
text_actual p first of' vs = dimensions_meant p of' >>= λ s. whole_passed first s.specs (text_whole vs)
