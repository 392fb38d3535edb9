-- What the steps of `Rattle.check_steps.specs.Items` leave as it was.
use Rattle.std.proofs.Common.{ℕ, refl}
use Rattle.pas_tree.specs.BlockTrees.{RoutineTree}
use Rattle.core_program.specs.declared.rows.{ItemRow.ItemRow, Row.Row}
use Rattle.check_steps.specs.{Items.add_item, Known.Known}
use Rattle.rule_laws.proofs.{Keeping.Keeps, Keeping.bind-keeps, Keeping.give-keeps, Lasting.Lasting, Lasting.link-lasts, Lasting.put-lasts}

pub add_item-lasts : {G : RoutineTree → Type 0} {I : Known → Type 0} (kept : Lasting G I) (last slot : ℕ) (i : ItemRow) → Keeps I (add_item last slot i)
unfolding add_item
add_item-lasts kept last slot i = bind-keeps (link-lasts kept last slot) (λ _. bind-keeps (put-lasts kept slot (Row.Item i) refl) (λ _. give-keeps slot))
