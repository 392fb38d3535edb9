use Rattle.std.proofs.Common.{◌∙◌, ap}
use Rattle.persistent_store.proofs.MapLemmas.{map_of-with_cell}
use Rattle.persistent_store.proofs.store.Store.write.Goals as goal
use Rattle.persistent_store.specs.Addresses.{with_cell}

pub returns-clause-written : goal.returns-clause-written
returns-clause-written g c =
    map_of-with_cell _ _ c.args.addr c.args.value c.requires (rw c.in_ok-cell.ensures at c.in_ok-write_trie.ensures.written)
    ∙ ap (λ m. with_cell m c.args.addr c.args.value) c.self.view_is
