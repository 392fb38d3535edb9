use Rattle.reference_oracle.proofs.levels.settle.Given as goal
use Rattle.reference_oracle.specs.Levels.{Leads}

abbrev pub invariant-rounds : goal.invariant-rounds
invariant-rounds l = Leads l.inside l.fn.levels l.levels
