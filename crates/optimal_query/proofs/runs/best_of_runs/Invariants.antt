use Rattle.std.proofs.Common.{◌-◌}
use Rattle.optimal_query.proofs.BestOfRuns.{Seen}
use Rattle.optimal_query.proofs.runs.best_of_runs.Given as goal
use Rattle.optimal_query.specs.Runs.{field_of}

abbrev pub invariant-calls : goal.invariant-calls
invariant-calls l = Seen (field_of l.last l.weights l.askable l.total l.start l.end) l.from l.best

abbrev pub decreases-calls : goal.decreases-calls
decreases-calls l = l.end - l.from
