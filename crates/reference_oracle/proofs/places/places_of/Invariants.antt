use Rattle.std.proofs.Common.{◌≤◌, drop, length}
use Rattle.reference_oracle.proofs.places.places_of.Given as goal
use Rattle.reference_oracle.specs.Places.{ArePlaces, EndsBefore}

abbrev pub decreases-each : goal.decreases-each
decreases-each l = l.at

abbrev pub invariant-each : goal.invariant-each
invariant-each l = record {
  within : l.at ≤ length l.matches;
  room : EndsBefore l.matches (length l.places.items);
  places : ArePlaces (drop l.at l.matches) l.places.items;
}
