use Rattle.optimal_query.proofs.Changes.{were_unjudged}
use Rattle.optimal_query.proofs.search.Debug.new.Goals as goal

pub follow-requires-clause-were : goal.follow-requires-clause-were
follow-requires-clause-were c = rw (c.in_ok-book.ensures, c.in_ok-markings.ensures) (were_unjudged c.args.calls.now c.requires.a_call)
