use Rattle.weight_lanes.proofs.plain.next_leaving_fewer.Given as goal
use Rattle.weight_lanes.specs.{Lanes.NoneIn, Places.LeavesFewer}

abbrev pub invariant-loop-place : goal.invariant-loop-place
invariant-loop-place l = NoneIn (LeavesFewer l.weights l.askable l.total l.bound) l.from l.place
