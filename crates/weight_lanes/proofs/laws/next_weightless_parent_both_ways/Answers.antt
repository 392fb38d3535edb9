use Rattle.weight_lanes.proofs.AnswersAreUnique.{one_next_weightless_parent}
use Rattle.weight_lanes.proofs.laws.next_weightless_parent_both_ways.Goals as goal

pub returns-clause-same : goal.returns-clause-same
returns-clause-same c =
    let a = c.next_weightless_parent-by_lanes in
    let b = c.next_weightless_parent-by_loop in
    one_next_weightless_parent c.args.weights.now c.args.last.now c.args.from a.result b.result
    (record { none = a.ensures.none; holds = a.ensures.holds; at_least = a.ensures.at_least; least = a.ensures.least })
    (record { none = b.ensures.none; holds = b.ensures.holds; at_least = b.ensures.at_least; least = b.ensures.least })
