use Rattle.std.proofs.Common.{arith}
use Rattle.weight_lanes.proofs.LeastBelowBound.{HasLeast-more, IsLeast-lanes}
use Rattle.weight_lanes.proofs.choosing.least_number.Goals as goal
use Rattle.weight_lanes.specs.Lanes.{lane_number}

pub search-preserved : goal.search-preserved
search-preserved c = record {
  high = omega arith;
  least = HasLeast-more (lane_number c.args.weights.now c.args.askable.now c.args.total) c.search.seen c.search.lanes c.numbers_from.result
      c.smaller-lanes.result
      c.search.invariant.least c.numbers_from.ensures c.smaller-lanes.ensures;
}

pub least_of_rest-requires-clause-before : goal.least_of_rest-requires-clause-before
least_of_rest-requires-clause-before c =
    IsLeast-lanes (lane_number c.args.weights.now c.args.askable.now c.args.total) c.search.seen c.least_lane-least.result c.search.lanes
    c.search.invariant.least
    c.least_lane-least.ensures
