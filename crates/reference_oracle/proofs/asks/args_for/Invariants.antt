use Rattle.std.proofs.Common.{◌++◌, ◌≡◌, drop, length, map}
use Rattle.reference_oracle.proofs.asks.args_for.Given as goal
use Rattle.reference_oracle.specs.Asking.{args_by, moved_by}

abbrev pub invariant-values : goal.invariant-values
invariant-values l = record {
  all : l.moved ++ map (moved_by l.places) (drop l.i l.args) ≡ args_by l.places l.args;
  long : length l.moved ≡ l.i;
}
