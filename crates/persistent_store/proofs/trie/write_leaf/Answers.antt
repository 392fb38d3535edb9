use Rattle.std.proofs.Common.{◌<◌, ◌∙◌, arith, length}
use Rattle.persistent_store.proofs.NodeLemmas.{written_cell}
use Rattle.persistent_store.proofs.trie.write_leaf.Goals as goal

pub returns-in-Some-clause-written : goal.returns-in-Some-clause-written
returns-in-Some-clause-written g c =
    let inside : c.args.place < length c.leaf.inside.cells = omega arith in
    written_cell _ _ c.args.place c.args.cell inside (c.leaf.view_is ∙ c.in-Some.ensures.value)
