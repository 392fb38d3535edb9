use Rattle.std.proofs.Common.{◌<◌, ◌∙◌, arith, length}
use Rattle.subtree_weights.proofs.KeptLemmas.{read_is, under_is_kept}
use Rattle.subtree_weights.proofs.weights.Weights.under.Goals as goal
use Rattle.subtree_weights.specs.Kept.{weighed_of}

pub returns : goal.returns
returns c =
    let inside : c.args.call < length (weighed_of c.self.inside).columns.last = rw (← c.self.view_is) at c.requires.a_call in
    let same = c.self.invariant.of_one_run.numbered.same_length in
    let weighed = c.self.invariant.of_one_run.weighed in
    let summed = c.self.invariant.of_one_run.summed in
    rw (← c.self.view_is) (read_is c.self.inside.unders.items c.args.call c.index.result.now (omega arith) c.index.ensures
    ∙ under_is_kept _ _ _ _ _ c.self.invariant c.args.call inside)
