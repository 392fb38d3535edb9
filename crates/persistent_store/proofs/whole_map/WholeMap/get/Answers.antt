use Rattle.std.proofs.Common.{◌∙◌, ap, sym}
use Rattle.std.specs.FinMap as map
use Rattle.persistent_store.proofs.MapLemmas.{get-map_of}
use Rattle.persistent_store.proofs.whole_map.WholeMap.get.Goals as goal

pub returns : goal.returns
returns c =
    c.copied.ensures
    ∙ c.get.ensures.value
    ∙ sym (get-map_of _ c.args.addr c.requires)
    ∙ ap (λ m. map.get m c.args.addr) c.self.view_is
