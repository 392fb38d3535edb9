use Rattle.std.proofs.Common.{◌++◌, ◌≡◌, ◌≤◌, drop, length}
use Rattle.reference_oracle.proofs.asks.items_from.Given as goal

abbrev pub invariant-items : goal.invariant-items
invariant-items l = record {
  all : l.rest ++ drop l.i l.items ≡ drop l.place l.items;
  few : length l.rest ≤ l.i;
}
