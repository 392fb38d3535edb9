-- What the steps of `Rattle.denoter_checker.specs.Arrays` keep.
use Rattle.std.proofs.Common.{ℕ, Bool, false}
use Rattle.core_program.specs.declared.rows.{Row.Row, TypeRow.TypeRow}
use Rattle.check_steps.specs.Known.{type_at}
use Rattle.kind_checker.specs.Sizes.{array_cells}
use Rattle.denoter_checker.specs.Arrays.{array, index_in, joined, put_index}
use Rattle.code_checker.proofs.Steps.{Holds, bind-holds, give-holds, look-holds, put-holds}

pub array-holds : {size : ℕ} {later : Bool} (packed : Bool) (bracket : ℕ) (index : ℕ) (component : ℕ)
    → Holds size later (array packed bracket index component)
unfolding array
array-holds packed bracket index component = bind-holds (look-holds (λ k. array_cells k index component)) (λ cells.
    bind-holds (put-holds bracket (Row.Type (TypeRow.Array packed index component cells))) (λ _. give-holds bracket))

pub put_index-holds : {size : ℕ} {later : Bool} (comma : ℕ) (index : ℕ) → Holds size later (put_index comma index)
unfolding put_index
put_index-holds comma index = put-holds comma (Row.Type (TypeRow.Array false index comma 0))

pub joined-holds : {size : ℕ} {later : Bool} (packed : Bool) (component : ℕ) (comma : ℕ) → Holds size later (joined packed component comma)
unfolding joined
joined-holds packed component comma = bind-holds (look-holds (λ k. index_in (type_at k comma) comma)) (λ index. array-holds packed comma index component)
