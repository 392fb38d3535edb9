use Rattle.std.proofs.Common.{arith, subst, sym}
use Rattle.optimal_query.specs.Search.{Search}
use Rattle.dialog_replies.proofs.ColumnsOfCalls.{calls_counted, new_is_search}
use Rattle.dialog_replies.proofs.searches.begin.Goals as goal
use Rattle.dialog_replies.specs.Kept.{IsSearchOf}

pub new-requires-clause-a_call : goal.new-requires-clause-a_call
new-requires-clause-a_call g c =
    let counted = calls_counted (g.D.Debugged.subject c.args.run.now) c.calls.result.now c.calls.ensures in
    omega (arith, c.calls.ensures.some)

pub returns-in-Ok-clause-search : goal.returns-in-Ok-clause-search
returns-in-Ok-clause-search g c =
    let s = g.D.Debugged.subject c.args.run.now in
    subst (λ (search : Search). IsSearchOf s search) (sym c.in-Ok.ensures) (new_is_search s c.calls.result.now c.calls.ensures)
