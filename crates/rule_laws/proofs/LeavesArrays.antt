-- What the steps of `Rattle.denoter_checker.specs.Arrays` leave at other tokens.
use Rattle.std.proofs.Common.{ℕ, Bool, false}
use Rattle.core_program.specs.declared.rows.{Row.Row, TypeRow.TypeRow}
use Rattle.check_steps.specs.Known.{type_at}
use Rattle.kind_checker.specs.Sizes.{array_cells}
use Rattle.denoter_checker.specs.Arrays.{array, index_in, joined, put_index}
use Rattle.rule_laws.proofs.Every.{Of}
use Rattle.rule_laws.proofs.Leaves.{Leaves, bind-leaves, give-leaves, look-leaves, put-leaves}

pub array-leaves : {Q : ℕ → Type 0} (packed : Bool) (bracket : ℕ) (index : ℕ) (component : ℕ) → Of Q bracket
    → Leaves Q (array packed bracket index component)
unfolding array
array-leaves packed bracket index component bracket-in = bind-leaves (look-leaves (λ k. array_cells k index component)) (λ cells.
    bind-leaves (put-leaves bracket (Row.Type (TypeRow.Array packed index component cells)) bracket-in) (λ _. give-leaves bracket))

pub put_index-leaves : {Q : ℕ → Type 0} (comma : ℕ) (index : ℕ) → Of Q comma → Leaves Q (put_index comma index)
unfolding put_index
put_index-leaves comma index comma-in = put-leaves comma (Row.Type (TypeRow.Array false index comma 0)) comma-in

pub joined-leaves : {Q : ℕ → Type 0} (packed : Bool) (component : ℕ) (comma : ℕ) → Of Q comma → Leaves Q (joined packed component comma)
unfolding joined
joined-leaves packed component comma comma-in = bind-leaves (look-leaves (λ k. index_in (type_at k comma) comma))
    (λ index. array-leaves packed comma index component comma-in)
