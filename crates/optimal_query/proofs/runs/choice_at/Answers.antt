use Rattle.optimal_query.proofs.BestOfRuns.{best_alone, none_alone}
use Rattle.optimal_query.proofs.runs.choice_at.Goals as goal

pub returns-then-askable-call-eq0 : goal.returns-then-askable-call-eq0
returns-then-askable-call-eq0 c = none_alone c.args.askable.now c.args.call c.if-askable-call-eq0.true

pub returns : goal.returns
returns c =
    best_alone c.args.weights.now c.args.askable.now c.args.total c.args.call c.left_after-left.result c.if-askable-call-eq0.false c.left_after-left.ensures
