-- What the steps of `Rattle.denoter_checker.specs.Arrays` leave as it was.
use Rattle.std.proofs.Common.{ℕ, Bool, false, refl}
use Rattle.pas_tree.specs.BlockTrees.{RoutineTree}
use Rattle.core_program.specs.declared.rows.{Row.Row, TypeRow.TypeRow}
use Rattle.check_steps.specs.Known.{Known, type_at}
use Rattle.kind_checker.specs.Sizes.{array_cells}
use Rattle.denoter_checker.specs.Arrays.{array, index_in, joined, put_index}
use Rattle.rule_laws.proofs.{Keeping.Keeps, Keeping.bind-keeps, Keeping.give-keeps, Keeping.look-keeps, Lasting.Lasting, Lasting.put-lasts}

pub array-lasts : {G : RoutineTree → Type 0} {I : Known → Type 0} (kept : Lasting G I) (packed : Bool) (bracket index component : ℕ)
    → Keeps I (array packed bracket index component)
unfolding array
array-lasts kept packed bracket index component = bind-keeps (look-keeps (λ k. array_cells k index component))
    (λ cells. bind-keeps (put-lasts kept bracket (Row.Type (TypeRow.Array packed index component cells)) refl) (λ _. give-keeps bracket))

pub put_index-lasts : {G : RoutineTree → Type 0} {I : Known → Type 0} (kept : Lasting G I) (comma index : ℕ) → Keeps I (put_index comma index)
unfolding put_index
put_index-lasts kept comma index = put-lasts kept comma (Row.Type (TypeRow.Array false index comma 0)) refl

pub joined-lasts : {G : RoutineTree → Type 0} {I : Known → Type 0} (kept : Lasting G I) (packed : Bool) (component comma : ℕ)
    → Keeps I (joined packed component comma)
unfolding joined
joined-lasts kept packed component comma = bind-keeps (look-keeps (λ k. index_in (type_at k comma) comma))
    (λ index. array-lasts kept packed comma index component)
