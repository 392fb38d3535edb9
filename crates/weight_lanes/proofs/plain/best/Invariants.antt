use Rattle.weight_lanes.proofs.BestSoFar.{BestBelow}
use Rattle.weight_lanes.proofs.plain.best.Given as goal

abbrev pub invariant-loop-at : goal.invariant-loop-at
invariant-loop-at l = BestBelow l.weights l.askable l.total l.at l.best
