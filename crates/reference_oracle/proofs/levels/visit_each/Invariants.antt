use Rattle.reference_oracle.proofs.levels.visit_each.Given as goal
use Rattle.reference_oracle.specs.Levels.{Leads}

abbrev pub invariant-each : goal.invariant-each
invariant-each l = Leads l.inside l.fn.levels l.levels
