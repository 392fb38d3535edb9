use Rattle.std.proofs.Common.{◌∙◌, ap}
use Rattle.std.specs.FinMap as map
use Rattle.persistent_store.proofs.MapLemmas.{map_of-remove, tree_changes}
use Rattle.persistent_store.proofs.whole_map.WholeMap.remove.Goals as goal

pub returns : goal.returns
returns c =
    map_of-remove _ _ c.args.addr c.requires (tree_changes c.self.inside.entries c.remove.new.self _ _ c.remove.ensures.updates)
    ∙ ap (λ m. map.remove m c.args.addr) c.self.view_is
