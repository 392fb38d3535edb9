use Rattle.std.proofs.Common.{◌≡◌, [], ℕ}
use Rattle.reference_oracle.proofs.parts.empty_lists.Given as goal
use Rattle.reference_oracle.specs.PartsKept.{parts_at}

abbrev pub invariant-each : goal.invariant-each
invariant-each l = (whole : ℕ) → parts_at l.lists.items whole ≡ []
