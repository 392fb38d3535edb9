use Rattle.std.proofs.Common.{◌<◌, arith, refl, subst, sym}
use Rattle.std.proofs.lemmas.List.{length-take-le}
use Rattle.weight_lanes.specs.Places.{left_at}
use Rattle.optimal_query.proofs.BestOfRuns.{no_fewer}
use Rattle.optimal_query.proofs.runs.next_better.Goals as goal
use Rattle.optimal_query.specs.Runs.{LeavesNoMore}

pub returns-in-Some-next_leaving_fewer-clause-worse : goal.returns-in-Some-next_leaving_fewer-clause-worse
returns-in-Some-next_leaving_fewer-clause-worse c call low high unsaid =
    let weights = c.args.weights.now in
    let found = c.in-Some-next_leaving_fewer in
    let end : found.call < c.args.end = omega (arith, found.ensures.fewer.inside, length-take-le c.args.end weights c.requires.inside) in
    subst (λ best. LeavesNoMore best (left_at weights c.args.total call)) (sym c.in-Some.is)
    (no_fewer weights c.args.askable.now c.args.total c.in-Some.best.left c.args.end call (omega arith) c.requires.inside
    (λ fewer. let l = found.ensures.least call low fewer in omega arith) unsaid)

pub returns-in-None-clause-worse : goal.returns-in-None-clause-worse
returns-in-None-clause-worse c call low high unsaid =
    let weights = c.args.weights.now in
    subst (λ best. LeavesNoMore best (left_at weights c.args.total call)) (sym c.in-Some.is)
    (no_fewer weights c.args.askable.now c.args.total c.in-Some.best.left c.args.end call high c.requires.inside
    (c.in-None.ensures.none.0 refl call low) unsaid)
