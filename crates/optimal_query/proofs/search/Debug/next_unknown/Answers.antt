use Rattle.std.proofs.Common.{◌∙◌, sym}
use Rattle.optimal_query.proofs.Changes.{accused_known}
use Rattle.optimal_query.proofs.search.Debug.next_unknown.Goals as goal

pub next_unknown-requires-clause-accused_is_a_call : goal.next_unknown-requires-clause-accused_is_a_call
next_unknown-requires-clause-accused_is_a_call c =
    λ call is. accused_known c.self.inside.calls.now c.self.inside.book c.self.inside.markings c.self.invariant call (sym c.accused.ensures ∙ is)
