use Rattle.weight_lanes.proofs.LeastBelowBound.{IsLeast-more}
use Rattle.weight_lanes.proofs.choosing.least_of_rest.Goals as goal
use Rattle.weight_lanes.specs.Lanes.{lane_number}

pub loop-place-preserved : goal.loop-place-preserved
loop-place-preserved c =
    IsLeast-more (lane_number c.args.weights.now c.args.askable.now c.args.total) c.loop-place.place c.loop-place.least c.number.result c.min-least.result
    c.loop-place.invariant c.number.ensures c.min-least.ensures
