use Rattle.std.proofs.Common.{◌+◌, ◌-◌, ◌≡◌, ◌≤◌, length, map}
use Rattle.optimal_query.proofs.CallsOfRoutine.{AreUpTo}
use Rattle.optimal_query.proofs.markings.look_up.Given as goal
use Rattle.optimal_query.specs.Markings.{askable_flag}

abbrev pub invariant-calls : goal.invariant-calls
invariant-calls g l = record {
  up_to : AreUpTo l.book l.marks l.routine l.from;
  flagged : l.askable ≡ map askable_flag l.marks;
  not_fallen : l.initial.steps ≤ l.steps;
  cost : l.steps ≤ l.initial.steps + l.from;
  within : l.from ≤ length l.book.routine;
}

abbrev pub decreases-calls : goal.decreases-calls
decreases-calls g l = length l.book.routine - l.from
