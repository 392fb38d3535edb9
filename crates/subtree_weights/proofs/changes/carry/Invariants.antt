use Rattle.call_tree.specs.Recording.{depths_of, lasts_of}
use Rattle.subtree_weights.proofs.CarriedUp.{IsCarried}
use Rattle.subtree_weights.proofs.changes.carry.Given as goal

abbrev pub invariant-up : goal.invariant-up
invariant-up g l =
    IsCarried
    (record { parent = l.parents; last = lasts_of l.calls.calls; marks = l.marks; weights = l.weights; unders = l.unders })
    (depths_of l.calls.calls) l.initial.change l.change l.initial.steps l.steps

abbrev pub decreases-up : goal.decreases-up
decreases-up g l = l.change.call
