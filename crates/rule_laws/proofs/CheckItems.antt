-- What the steps of `Rattle.check_steps.specs.Items` touch.
use Rattle.std.proofs.Common.{ℕ, refl}
use Rattle.core_program.specs.declared.rows.{ItemRow.ItemRow, Row.Row}
use Rattle.check_steps.specs.Items.{add_item, link, row_on}
use Rattle.rule_laws.proofs.{Every.Of, Faces.Shown, Faces.on_show}
use Rattle.rule_laws.proofs.Touches.{Touches, bind-touches, changed-touches, give-touches, put-touches}

pub link-touches : {Q : ℕ → Type 0} {strict : Shown} (last : ℕ) (next : ℕ) → Touches Q strict (link last next)
unfolding link
link-touches {strict = strict} last next = changed-touches last (λ r. row_on r next) (on_show strict next)

pub add_item-touches : {Q : ℕ → Type 0} {strict : Shown} (last : ℕ) (slot : ℕ) (i : ItemRow) → Of Q slot → Touches Q strict (add_item last slot i)
unfolding add_item
add_item-touches last slot i slot-in = bind-touches (link-touches last slot)
    (λ _. bind-touches (put-touches slot (Row.Item i) slot-in refl) (λ _. give-touches slot))
