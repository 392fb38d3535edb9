use Rattle.optimal_query.proofs.Changes.{were_trusted}
use Rattle.optimal_query.proofs.search.Debug.trust.Goals as goal

pub follow-requires-clause-were : goal.follow-requires-clause-were
follow-requires-clause-were g c =
    rw c.in-Ok.ensures.added (were_trusted c.self.inside.calls.now c.self.inside.book c.self.inside.markings c.args.routine c.self.invariant)
