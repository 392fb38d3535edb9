use Rattle.std.proofs.Common.{◌-◌}
use Rattle.optimal_query.proofs.NextDoubt.{Looked}
use Rattle.optimal_query.proofs.region.next_doubt.Given as goal

abbrev pub invariant-search : goal.invariant-search
invariant-search l = Looked l.last l.marks l.fn.accused l.before l.call

abbrev pub decreases-search : goal.decreases-search
decreases-search l = l.end - l.call
