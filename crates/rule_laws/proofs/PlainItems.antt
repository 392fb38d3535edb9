-- What the steps of `Rattle.check_steps.specs.Items` break.
use Rattle.std.proofs.Common.{ℕ}
use Rattle.core_program.specs.declared.rows.{ItemRow.ItemRow, Row.Row}
use Rattle.check_steps.specs.Items.{add_item}
use Rattle.rule_laws.proofs.Plain.{Aim, Plain, Solely, bind-solely, give-solely, link-plain, put-plain}

pub add_item-plain : {aim : Aim} (kept : Plain aim) (last slot : ℕ) (i : ItemRow) → Solely aim (add_item last slot i)
unfolding add_item
add_item-plain kept last slot i = bind-solely (link-plain kept last slot) (λ _. bind-solely (put-plain kept slot (Row.Item i)) (λ _. give-solely slot))
