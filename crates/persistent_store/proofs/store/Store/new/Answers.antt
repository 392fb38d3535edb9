use Rattle.std.proofs.Common.{refl}
use Rattle.persistent_store.proofs.MapLemmas.{map_of-empty}
use Rattle.persistent_store.proofs.store.Store.new.Goals as goal

pub returns : goal.returns
returns c = map_of-empty _ (λ q. refl)
