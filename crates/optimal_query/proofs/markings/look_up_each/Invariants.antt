use Rattle.std.proofs.Common.{◌+◌, ◌≡◌, map}
use Rattle.optimal_query.proofs.CallsOfRoutine.{AreBefore}
use Rattle.optimal_query.proofs.markings.look_up_each.Given as goal
use Rattle.optimal_query.specs.Markings.{askable_flag}

abbrev pub invariant-calls : goal.invariant-calls
invariant-calls g l = record {
  before : AreBefore l.book l.marks l.place;
  flagged : l.askable ≡ map askable_flag l.marks;
  cost : l.steps ≡ l.initial.steps + l.place;
}
