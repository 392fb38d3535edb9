use Rattle.std.proofs.Common.{if◌then◌else◌, ◌+◌, ◌-◌, ◌≡◌, ℕ, Some, length}
use Rattle.reference_oracle.proofs.places.put_match.Given as goal
use Rattle.reference_oracle.specs.{Matches.lies_among, Places.place_at}

abbrev pub invariant-cells : goal.invariant-cells
invariant-cells l = record {
  size : length l.places ≡ length l.fn.places;
  put : (address : ℕ) → place_at l.places address
      ≡ (if lies_among l.both.subject l.k address then Some (l.both.reference + (address - l.both.subject)) else place_at l.fn.places address);
}
