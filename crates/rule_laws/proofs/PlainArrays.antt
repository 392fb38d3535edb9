-- What the steps of `Rattle.denoter_checker.specs.Arrays` break.
use Rattle.std.proofs.Common.{ℕ, Bool, false}
use Rattle.core_program.specs.declared.rows.{Row.Row, TypeRow.TypeRow}
use Rattle.check_steps.specs.Known.{type_at}
use Rattle.kind_checker.specs.Sizes.{array_cells}
use Rattle.denoter_checker.specs.Arrays.{array, index_in, joined, put_index}
use Rattle.rule_laws.proofs.Plain.{Aim, Plain, Solely, bind-solely, give-solely, look-solely, put-plain}

pub array-plain : {aim : Aim} (kept : Plain aim) (packed : Bool) (bracket index component : ℕ)
    → Solely aim (array packed bracket index component)
unfolding array
array-plain kept packed bracket index component = bind-solely (look-solely (λ k. array_cells k index component))
    (λ cells. bind-solely (put-plain kept bracket (Row.Type (TypeRow.Array packed index component cells))) (λ _. give-solely bracket))

pub put_index-plain : {aim : Aim} (kept : Plain aim) (comma index : ℕ) → Solely aim (put_index comma index)
unfolding put_index
put_index-plain kept comma index = put-plain kept comma (Row.Type (TypeRow.Array false index comma 0))

pub joined-plain : {aim : Aim} (kept : Plain aim) (packed : Bool) (component comma : ℕ)
    → Solely aim (joined packed component comma)
unfolding joined
joined-plain kept packed component comma = bind-solely (look-solely (λ k. index_in (type_at k comma) comma))
    (λ index. array-plain kept packed comma index component)
