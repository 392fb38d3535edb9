use Rattle.persistent_store.proofs.MapLemmas.{map_of-empty, tree_get-empty}
use Rattle.persistent_store.proofs.whole_map.WholeMap.new.Goals as goal

pub returns : goal.returns
returns c = map_of-empty _ (λ q. tree_get-empty c.new.result q c.new.ensures.empty)
