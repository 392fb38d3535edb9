use Rattle.whole_tables.proofs.NamedOnce.{Named}
use Rattle.whole_tables.proofs.once.are_named_once.Given as goal

abbrev pub invariant-constructs : goal.invariant-constructs
invariant-constructs l = Named l.program l.at l.column.items
