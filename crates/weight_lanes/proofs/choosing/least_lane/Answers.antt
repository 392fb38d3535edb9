use Rattle.std.proofs.Common.{get_or, refl}
use Rattle.weight_lanes.proofs.LeastBelowBound.{IsLeast-more}
use Rattle.weight_lanes.proofs.choosing.least_lane.Goals as goal

pub loop-number-preserved : goal.loop-number-preserved
loop-number-preserved c =
    IsLeast-more (λ lane. get_or c.args.lanes lane 0) c.loop-number.number-index c.loop-number.least _ c.min-least.result
    c.loop-number.invariant refl c.min-least.ensures
