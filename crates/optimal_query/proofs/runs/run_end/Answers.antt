use Rattle.std.proofs.{Common.◌<◌, Common.arith, Common.refl, lemmas.List.length-take-le}
use Rattle.optimal_query.proofs.BestOfRuns.{none_below}
use Rattle.optimal_query.proofs.runs.run_end.Goals as goal

pub returns-in-Some-clause-run : goal.returns-in-Some-clause-run
returns-in-Some-clause-run c call low high =
    let inside = c.in-Some.ensures.holds.inside in
    let before : call < c.args.end = omega (arith, inside, length-take-le c.args.end c.args.weights.now c.requires.inside) in
    none_below c.args.weights.now c.args.last.now c.args.end call before c.requires.inside
    (λ parent. let l = c.in-Some.ensures.least call low parent in omega arith)

pub returns-in-None-clause-run : goal.returns-in-None-clause-run
returns-in-None-clause-run c call low high =
    none_below c.args.weights.now c.args.last.now c.args.end call high c.requires.inside (c.in-None.ensures.none.0 refl call low)
