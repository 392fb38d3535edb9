use Rattle.std.proofs.Common.{◌∙◌, sym}
use Rattle.persistent_store.proofs.MapLemmas.{none_from_is_some, remove_absent}
use Rattle.persistent_store.proofs.store.Store.remove.Goals as goal

pub returns-then-is_none-clause-gone : goal.returns-then-is_none-clause-gone
returns-then-is_none-clause-gone g c = sym (remove_absent _ _ (sym c.get.ensures ∙ none_from_is_some _ c.if-is_none.ensures))
