use Rattle.std.{proofs.Common.◌≤◌, proofs.Common.length, specs.HashMap.get}
use Rattle.core_program.proofs.classes.classes_of.Given as goal
use Rattle.core_program.specs.Classes.{Classed, same_form}

abbrev pub invariant-lists : goal.invariant-lists
invariant-lists l = record {
  within : l.at ≤ length l.tables.rows;
  classed : Classed l.tables l.types.items (get same_form l.known) l.at l.classes.items;
}

abbrev pub decreases-lists : goal.decreases-lists
decreases-lists l = l.at
