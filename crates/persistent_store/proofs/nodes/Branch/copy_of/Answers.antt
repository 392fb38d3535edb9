use Rattle.std.proofs.Common.{◌∙◌, None, ap, get_or, option_copied, sym}
use Rattle.persistent_store.proofs.NodeLemmas.{entries_alike, entries_none}
use Rattle.persistent_store.proofs.nodes.Branch.copy_of.Goals as goal
use Rattle.persistent_store.specs.Nodes.{node_entry}

pub returns-in_ok-clone-in-Some : goal.returns-in_ok-clone-in-Some
returns-in_ok-clone-in-Some g c = record {
  same = λ k. ap (λ ys. get_or ys k None) (entries_alike c.branch.inside.there _ _ c.in_ok-clone-in-Some.ensures.cases.whole ∙ c.branch.view_is)
      ∙ ap (λ b. node_entry (option_copied b) k) (sym c.in-Some.is);
}

pub returns-in_ok-try_from_fn-in-None : goal.returns-in_ok-try_from_fn-in-None
returns-in_ok-try_from_fn-in-None g c = record {
  same = λ k. entries_none 16 _ k ∙ ap (λ b. node_entry (option_copied b) k) (sym c.in-None.is);
}
