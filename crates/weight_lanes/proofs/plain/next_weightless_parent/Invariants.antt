use Rattle.weight_lanes.proofs.plain.next_weightless_parent.Given as goal
use Rattle.weight_lanes.specs.{Lanes.NoneIn, Places.IsWeightlessParent}

abbrev pub invariant-loop-place : goal.invariant-loop-place
invariant-loop-place l = NoneIn (IsWeightlessParent l.weights l.last) l.from l.place
