-- Arrays of several indices (6.4.3.2): `array [a, b] of t` is an array of arrays.
use Rattle.std.specs.Prelude.{ℕ, Bool, Option, Some, false}
use Rattle.pas_tree.specs.declared.denoters.NextDenoter.{NextDenoter}
use Rattle.core_program.specs.declared.rows.{Row.Row, TypeRow.TypeRow}
use Rattle.check_steps.specs.Known.{type_at}
use Rattle.check_steps.specs.Steps.{◌>>=◌, Step, give, look, put}
use Rattle.kind_checker.specs.Sizes.{array_cells}

-- an array type, at its `[` or the comma before its index type
unfoldable pub array : Bool → ℕ → ℕ → ℕ → Step ℕ
array packed bracket index component = do
  cells ← look (λ k. array_cells k index component)
  _ ← put bracket (Row.Type (TypeRow.Array packed index component cells))
  give bracket

-- the index type after a comma, until its component type is known
unfoldable pub put_index : ℕ → ℕ → Step (Unit {0})
put_index comma index = put comma (Row.Type (TypeRow.Array false index comma 0))

abbrev pub index_in : Option TypeRow → ℕ → ℕ
index_in (Some (TypeRow.Array packed index component cells)) otherwise = index
index_in r otherwise = otherwise

-- the array at a comma, which is the component of the one before
unfoldable pub joined : Bool → ℕ → ℕ → Step ℕ
joined packed component comma = do
  index ← look (λ k. index_in (type_at k comma) comma)
  array packed comma index component

unfoldable pub next_joined : Bool → ℕ → NextDenoter → Step ℕ
next_joined packed component n = joined packed component n.comma
