use Rattle.optimal_query.proofs.BestOfRuns.{seen_past_worse}
use Rattle.optimal_query.proofs.runs.best_of_runs.Goals as goal
use Rattle.optimal_query.specs.Runs.{field_of}

pub calls-preserved-then-to-from-ge-LONG : goal.calls-preserved-then-to-from-ge-LONG
calls-preserved-then-to-from-ge-LONG c =
    seen_past_worse (field_of c.args.last.now c.args.weights.now c.args.askable.now c.args.total c.args.start c.args.end) c.calls.from c.next_better-to.result
    c.past_weightless-from.result c.calls.best c.requires.a_field c.calls.invariant
    (record {
      order = c.next_better-to.ensures.order;
      inside = c.next_better-to.ensures.inside;
      worse = c.next_better-to.ensures.worse;
      at_least = c.past_weightless-from.ensures.at_least;
      beyond = c.past_weightless-from.ensures.beyond;
      hidden = c.past_weightless-from.ensures.hidden;
    })
