use Rattle.std.proofs.Common.{◌≤◌, length}
use Rattle.core_program.proofs.long_lists.LongLists.new.Given as goal
use Rattle.core_program.specs.Lists.{LongFrom, found_at}

abbrev pub invariant-items : goal.invariant-items
invariant-items l = record {
  within : l.at ≤ length l.tables.rows;
  long : LongFrom l.tables l.kind l.at l.lists.tails.items (found_at l.lists.found);
}

abbrev pub decreases-items : goal.decreases-items
decreases-items l = l.at
