use Rattle.std.proofs.Common.{◌<◌, arith, length}
use Rattle.persistent_store.proofs.NodeLemmas.{values-set}
use Rattle.persistent_store.proofs.nodes.Leaf.changed.Goals as goal

pub returns-clause-changed : goal.returns-clause-changed
returns-clause-changed g c =
    let inside : c.args.place < length c.in_ok-cells.cells = omega (arith, c.in_ok-cells.ensures.sixteen) in
    values-set _ _ _ _ c.args.cell inside c.in_ok-cells.ensures.same c.in_ok-leaf.ensures.ok
