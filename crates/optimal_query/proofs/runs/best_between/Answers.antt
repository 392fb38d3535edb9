use Rattle.std.proofs.Common.{refl}
use Rattle.optimal_query.proofs.BestOfRuns.{best_in_part, none_in_part}
use Rattle.optimal_query.proofs.runs.best_between.Goals as goal

pub returns-in-Some : goal.returns-in-Some
returns-in-Some c =
    best_in_part c.args.weights.now c.args.askable.now c.args.total c.args.from c.args.to c.in-Some.choice
    (record { order = c.requires.order; inside = c.requires.inside; same_length = c.requires.same_length })
    (record {
      at_askable = c.in-Some.ensures.at_askable;
      left_is = c.in-Some.ensures.left;
      least = c.in-Some.ensures.least;
      first = c.in-Some.ensures.first;
    })

pub returns-in-None : goal.returns-in-None
returns-in-None c =
    none_in_part c.args.weights.now c.args.askable.now c.args.from c.args.to
    (record { order = c.requires.order; inside = c.requires.inside; same_length = c.requires.same_length })
    (c.in-None.ensures.none.0 refl)
