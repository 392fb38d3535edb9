use Rattle.std.proofs.Common.{◌∙◌, refl}
use Rattle.persistent_store.proofs.NodeLemmas.{if_some, some_there}
use Rattle.persistent_store.proofs.nodes.Branch.sole.Goals as goal

pub returns-then-deref-place : goal.returns-then-deref-place
returns-then-deref-place g c =
    let pointer = c.behind-pointer in
    let some = some_there _ _ c.args.place pointer.invariant c.requires (pointer.view_is ∙ c.deref.ensures) c.if-deref-place.true in
    (refl, record { writes_back = tt; value = c.get_mut.ensures.value; there = if_some _ some })
