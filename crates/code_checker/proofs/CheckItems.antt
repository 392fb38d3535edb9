-- What the steps of `Rattle.check_steps.specs.Items` keep.
use Rattle.std.proofs.Common.{ℕ, Bool}
use Rattle.core_program.specs.declared.rows.{ItemRow.ItemRow, Row.Row}
use Rattle.check_steps.specs.{Items.add_item, Items.link, Items.row_on, Known.row_at}
use Rattle.code_checker.proofs.Steps.{Holds, bind-holds, give-holds, look-holds, put-holds}

pub link-holds : {size : ℕ} {later : Bool} (last : ℕ) (next : ℕ) → Holds size later (link last next)
unfolding link
link-holds last next = bind-holds (look-holds (λ k. row_on (row_at k last) next)) (λ r. put-holds last r)

pub add_item-holds : {size : ℕ} {later : Bool} (last : ℕ) (slot : ℕ) (i : ItemRow) → Holds size later (add_item last slot i)
unfolding add_item
add_item-holds last slot i = bind-holds (link-holds last slot) (λ _. bind-holds (put-holds slot (Row.Item i)) (λ _. give-holds slot))
