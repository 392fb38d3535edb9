use Rattle.std.proofs.Common.{◌∙◌}
use Rattle.subtree_weights.proofs.KeptLemmas.{weights_are_kept}
use Rattle.subtree_weights.proofs.weights.Weights.column.Goals as goal

pub returns : goal.returns
returns c = rw (← c.self.view_is) (c.deref.ensures.value ∙ weights_are_kept _ _ _ _ _ c.self.invariant)
