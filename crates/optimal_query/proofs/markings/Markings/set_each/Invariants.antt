use Rattle.std.proofs.Common.{◌+◌, ◌-◌, ◌≡◌, ◌≤◌, length}
use Rattle.optimal_query.proofs.CallsOfRoutine.{AreUpTo}
use Rattle.optimal_query.proofs.markings.Markings.set_each.Given as goal
use Rattle.optimal_query.specs.Changed.{ways_up}

abbrev pub invariant-calls : goal.invariant-calls
invariant-calls g l = record {
  columns : l.self.columns ≡ l.initial.self.columns;
  up_to : AreUpTo l.book l.self.marks l.routine l.from;
  not_fallen : l.initial.steps ≤ l.steps;
  cost : l.steps ≤ l.initial.steps + ways_up l.initial.self.columns.depth l.book.routine l.routine l.from;
  within : l.from ≤ length l.book.routine;
}

abbrev pub decreases-calls : goal.decreases-calls
decreases-calls g l = length l.book.routine - l.from
