use Rattle.call_tree.specs.Recording.{lasts_of}
use Rattle.subtree_weights.proofs.CountedDown.{IsCounted}
use Rattle.subtree_weights.proofs.counting.add_up.Given as goal

abbrev pub invariant-calls : goal.invariant-calls
invariant-calls g l =
    IsCounted
    (record { parent = l.parents; last = lasts_of l.calls.calls; marks = l.marks; weights = l.weights; unders = l.unders })
    l.call l.initial.steps l.steps

abbrev pub decreases-calls : goal.decreases-calls
decreases-calls g l = l.call
