use Rattle.weight_lanes.proofs.AnswersAreUnique.{one_last}
use Rattle.weight_lanes.proofs.laws.last_set_both_ways.Goals as goal

pub returns-clause-same : goal.returns-clause-same
returns-clause-same c =
    let a = c.last_set-by_lanes in
    let b = c.last_set-by_loop in
    one_last c.args.flags.now a.result b.result
    (record { none = a.ensures.none; set = a.ensures.set; greatest = a.ensures.greatest })
    (record { none = b.ensures.none; set = b.ensures.set; greatest = b.ensures.greatest })
