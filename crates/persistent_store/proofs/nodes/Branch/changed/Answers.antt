use Rattle.std.proofs.Common.{◌∙◌, None, ap, get_or}
use Rattle.persistent_store.proofs.NodeLemmas.{node-set}
use Rattle.persistent_store.proofs.nodes.Branch.changed.Goals as goal

pub returns-clause-changed : goal.returns-clause-changed
returns-clause-changed g c =
    node-set _ _ _ c.args.place c.args.node c.branch.invariant c.requires
    (λ k. ap (λ ys. get_or ys k None) c.branch.view_is ∙ c.in_ok-branch.ensures.same k) c.in_ok-branch-2.ensures.ok
