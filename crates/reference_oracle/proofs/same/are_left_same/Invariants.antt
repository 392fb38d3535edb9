use Rattle.std.{proofs.Common.◌<◌, proofs.Common.◌≡◌, proofs.Common.ℕ, proofs.Common.Some, specs.FinMap.get}
use Rattle.reference_oracle.proofs.same.are_left_same.Given as goal
use Rattle.reference_oracle.specs.Places.{place_at}

abbrev pub invariant-addresses : goal.invariant-addresses
invariant-addresses l =
    (k there : ℕ) → k < l.address → place_at l.places k ≡ Some there → get l.answer there ≡ get l.left k
