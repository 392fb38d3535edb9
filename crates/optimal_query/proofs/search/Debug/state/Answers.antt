use Rattle.std.proofs.Common.{◌∙◌, sym}
use Rattle.optimal_query.proofs.Changes.{accused_known}
use Rattle.optimal_query.proofs.search.Debug.state.Goals as goal

pub state-requires-clause-accused_is_a_call : goal.state-requires-clause-accused_is_a_call
state-requires-clause-accused_is_a_call c =
    λ call is. accused_known c.self.inside.calls.now c.self.inside.book c.self.inside.markings c.self.invariant call (sym c.accused.ensures ∙ is)
