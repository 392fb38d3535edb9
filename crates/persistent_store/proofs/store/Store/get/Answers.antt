use Rattle.std.proofs.Common.{◌∙◌, ap, sym}
use Rattle.std.specs.FinMap as map
use Rattle.persistent_store.proofs.MapLemmas.{get-map_of}
use Rattle.persistent_store.proofs.store.Store.get.Goals as goal
use Rattle.persistent_store.specs.Nodes.{cell_at}

pub returns : goal.returns
returns c =
    c.cell_of.ensures
    ∙ ap (λ root. cell_at root c.args.addr) c.target.ensures
    ∙ sym (get-map_of _ c.args.addr c.requires)
    ∙ ap (λ m. map.get m c.args.addr) c.self.view_is
