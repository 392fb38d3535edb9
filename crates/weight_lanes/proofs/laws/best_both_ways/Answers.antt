use Rattle.weight_lanes.proofs.AnswersAreUnique.{one_best}
use Rattle.weight_lanes.proofs.laws.best_both_ways.Goals as goal

pub returns-clause-same : goal.returns-clause-same
returns-clause-same c =
    let a = c.best-by_lanes in
    let b = c.best-by_loop in
    one_best c.args.weights.now c.args.askable.now c.args.total a.result b.result
    (record { none = a.ensures.none; at_askable = a.ensures.at_askable; left = a.ensures.left; least = a.ensures.least; first = a.ensures.first })
    (record { none = b.ensures.none; at_askable = b.ensures.at_askable; left = b.ensures.left; least = b.ensures.least; first = b.ensures.first })
