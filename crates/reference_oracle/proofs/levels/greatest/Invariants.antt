use Rattle.std.proofs.Common.{◌&&◌, ◌≡◌, ℕ, drop, nat_le}
use Rattle.reference_oracle.proofs.levels.greatest.Given as goal
use Rattle.reference_oracle.specs.Levels.{all_within}

abbrev pub invariant-each : goal.invariant-each
invariant-each l =
    (most : ℕ) → nat_le l.greatest most && all_within l.levels most (drop l.i l.numbers) ≡ all_within l.levels most l.numbers
