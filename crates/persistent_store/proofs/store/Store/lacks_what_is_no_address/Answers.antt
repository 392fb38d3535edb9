use Rattle.std.proofs.Common.{◌∙◌, ap, sym}
use Rattle.std.specs.FinMap as map
use Rattle.persistent_store.proofs.MapLemmas.{get-map_of_past}
use Rattle.persistent_store.proofs.store.Store.lacks_what_is_no_address.Goals as goal

pub returns : goal.returns
returns c = record {
  nothing_past = λ addr past. ap (λ m. map.get m addr) (sym c.self.view_is) ∙ get-map_of_past _ addr past;
}
