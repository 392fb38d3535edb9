-- The components of an array that is accessed.
use Rattle.std.specs.Prelude.{ℕ, None, Option, Some, option_map}
use Rattle.core_program.specs.Accesses.{type_accessed}
use Rattle.core_program.specs.ProgramRows.{ProgramRows, cells_in, size_of, type_at}
use Rattle.core_program.specs.declared.{components.Components.Components, rows.Row.Row, rows.TypeRow.TypeRow}
use Rattle.core_program.specs.declared.rows.TypeRow.TheVariants.{Array, Ordinal, Subrange}

-- the cells of a variable of a type, if the type is there
abbrev pub size_in : Option TypeRow → Option ℕ
size_in None = None
size_in (Some t) = Some (cells_in (Some t))

-- by the index type and the cells of a component
abbrev pub components_of : (size : Option ℕ) → Option TypeRow → Option Components
components_of (Some size) (Some (Ordinal least greatest)) =
    Some (record { least = least; greatest = greatest; size = size })
components_of (Some size) (Some (Subrange host least greatest)) =
    Some (record { least = least; greatest = greatest; size = size })
components_of size t = None

-- by the type of the array
abbrev pub components_in : ProgramRows → Option TypeRow → Option Components
components_in p (Some (Array packed index component cells)) =
    components_of (size_in (type_at p component)) (type_at p index)
components_in p t = None

-- the cells of the array, and its components
abbrev pub array_in : ProgramRows → Row → Option (ℕ × Components)
array_in p (Row.Access a) =
    option_map (λ c. (size_of p (type_accessed a), c)) (components_in p (type_at p (type_accessed a)))
array_in p r = None
