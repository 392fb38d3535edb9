use Rattle.std.proofs.Common.{◌≤◌, drop, length}
use Rattle.reference_oracle.proofs.names.by_name.Given as goal
use Rattle.reference_oracle.specs.NamesKept.{AreNamed}

abbrev pub decreases-each : goal.decreases-each
decreases-each l = l.at

abbrev pub invariant-each : goal.invariant-each
invariant-each l = record {
  within : l.at ≤ length l.variables;
  named : AreNamed l.program (drop l.at l.variables) l.named;
}
