use Rattle.std.proofs.Common.{take}
use Rattle.reference_oracle.proofs.places.end_of.Given as goal
use Rattle.reference_oracle.specs.Places.{EndsBefore}

abbrev pub invariant-each : goal.invariant-each
invariant-each l = EndsBefore (take l.i l.matches) l.end
