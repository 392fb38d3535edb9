use Rattle.std.{proofs.Common.◌≤◌, proofs.Common.length, specs.HashMap.get}
use Rattle.core_program.proofs.type_classes.type_classes_of.Given as goal
use Rattle.core_program.specs.TypeClasses.{TypesClassed, same_type_form}

abbrev pub invariant-types : goal.invariant-types
invariant-types l = record {
  within : l.at ≤ length l.tables.rows;
  classed : TypesClassed l.tables (get same_type_form l.known) l.at l.types.items;
}

abbrev pub decreases-types : goal.decreases-types
decreases-types l = l.at
