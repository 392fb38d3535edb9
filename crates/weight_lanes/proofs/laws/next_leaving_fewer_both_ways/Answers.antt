use Rattle.weight_lanes.proofs.AnswersAreUnique.{one_next_where}
use Rattle.weight_lanes.proofs.laws.next_leaving_fewer_both_ways.Goals as goal
use Rattle.weight_lanes.specs.Places.{LeavesFewer}

pub returns-clause-same : goal.returns-clause-same
returns-clause-same c =
    let a = c.next_leaving_fewer-by_lanes in
    let b = c.next_leaving_fewer-by_loop in
    one_next_where (LeavesFewer c.args.weights.now c.args.askable.now c.args.total c.args.bound) c.args.from a.result b.result
    (record { none = a.ensures.none; holds = a.ensures.fewer; at_least = a.ensures.at_least; least = a.ensures.least })
    (record { none = b.ensures.none; holds = b.ensures.fewer; at_least = b.ensures.at_least; least = b.ensures.least })
