use Rattle.std.proofs.Common.{◌≡◌, ℕ, length}
use Rattle.reference_oracle.proofs.levels.add_levels.Given as goal
use Rattle.reference_oracle.specs.Levels.{level_at}

abbrev pub invariant-each : goal.invariant-each
invariant-each l = record {
  size : length l.levels.items ≡ l.number;
  same : (number : ℕ) → level_at l.levels.items number ≡ level_at l.fn.levels.items number;
}
