use Rattle.std.proofs.Common.{◌<◌, ◌≡◌, ◌≤◌, ℕ, false}
use Rattle.reference_oracle.proofs.levels.visit_from.Given as goal
use Rattle.reference_oracle.specs.Levels.{IsStuck, Leads}

abbrev pub invariant-each : goal.invariant-each
invariant-each l = record {
  leads : Leads l.inside l.fn.levels l.levels;
  settled : l.some ≡ false → (number : ℕ) → l.start ≤ number → number < l.number → IsStuck l.inside l.levels number;
}
