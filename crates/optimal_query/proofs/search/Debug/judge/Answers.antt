use Rattle.std.proofs.Common.{◌∙◌, ap, sym}
use Rattle.optimal_query.proofs.Changes.{judged_call, marked_so, were_judged}
use Rattle.optimal_query.proofs.search.Debug.judge.Goals as goal
use Rattle.optimal_query.specs.Search.{Search, mark_now}

pub follow-requires-clause-were : goal.follow-requires-clause-were
follow-requires-clause-were g c =
    let book = c.self.inside.book in
    rw c.in-Ok.ensures.added
    (were_judged c.self.inside.calls.now book c.self.inside.markings c.args.call c.args.judgement c.self.invariant
    (judged_call book c.args.call c.in-Ok.number (sym c.in-Ok.ensures.answer)))

pub returns-in-Ok-clause-mark_stays : goal.returns-in-Ok-clause-mark_stays
returns-in-Ok-clause-mark_stays g c same =
    let book = c.self.inside.book in
    (rw c.in-Ok.ensures.added at c.follow.ensures.costs_nothing)
    (marked_so c.self.inside.calls.now book c.self.inside.markings c.args.call c.args.judgement c.self.invariant
    (judged_call book c.args.call c.in-Ok.number (sym c.in-Ok.ensures.answer)) (ap (λ (s : Search). mark_now s c.args.call) c.self.view_is ∙ same))
