use Rattle.persistent_store.proofs.NodeLemmas.{values_alike}
use Rattle.persistent_store.proofs.nodes.copies_of.Goals as goal

pub returns-clause-same : goal.returns-clause-same
returns-clause-same c = values_alike _ _ c.in_ok-clone.ensures.cases.whole
