use Rattle.std.proofs.Common.{◌≡◌, map, take}
use Rattle.reference_oracle.proofs.matches.turned_matches.Given as goal
use Rattle.reference_oracle.specs.Matches.{turned}

abbrev pub invariant-each : goal.invariant-each
invariant-each l = l.turned.items ≡ map turned (take l.i l.matches)
