use Rattle.std.proofs.Common.{◌≡◌}
use Rattle.weight_lanes.proofs.choosing.first_of_rest.Given as goal
use Rattle.weight_lanes.specs.Lanes.{NoneIn, lane_number}

abbrev pub invariant-loop-place : goal.invariant-loop-place
invariant-loop-place l = NoneIn (λ place. lane_number l.weights l.askable l.total place ≡ l.sought) 0 l.place
