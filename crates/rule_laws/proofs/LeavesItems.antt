-- What the steps of `Rattle.check_steps.specs.Items` leave at other tokens.
use Rattle.std.proofs.Common.{ℕ}
use Rattle.core_program.specs.declared.rows.{ItemRow.ItemRow, Row.Row}
use Rattle.check_steps.specs.Items.{add_item, link, row_on}
use Rattle.rule_laws.proofs.Every.{Of}
use Rattle.rule_laws.proofs.Leaves.{Leaves, bind-leaves, give-leaves, looking-leaves, put-leaves, row_fast}

pub link-leaves : {Q : ℕ → Type 0} (last : ℕ) (next : ℕ) → Leaves Q (link last next)
unfolding link
link-leaves last next = looking-leaves last (λ k r. row_on r next) (λ k r fast. row_fast r next fast)

pub add_item-leaves : {Q : ℕ → Type 0} (last : ℕ) (slot : ℕ) (i : ItemRow) → Of Q slot → Leaves Q (add_item last slot i)
unfolding add_item
add_item-leaves last slot i slot-in = bind-leaves (link-leaves last slot)
    (λ _. bind-leaves (put-leaves slot (Row.Item i) slot-in) (λ _. give-leaves slot))
