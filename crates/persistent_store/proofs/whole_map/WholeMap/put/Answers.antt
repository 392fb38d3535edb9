use Rattle.std.proofs.Common.{◌∙◌, ap}
use Rattle.std.specs.FinMap as map
use Rattle.persistent_store.proofs.MapLemmas.{map_of-insert, tree_changes}
use Rattle.persistent_store.proofs.whole_map.WholeMap.put.Goals as goal

pub returns-clause-set : goal.returns-clause-set
returns-clause-set c =
    map_of-insert _ _ c.args.addr c.args.value c.requires (tree_changes c.self.inside.entries c.insert.new.self _ _ c.in_ok-insert.ensures.updates)
    ∙ ap (λ m. map.insert m c.args.addr c.args.value) c.self.view_is
