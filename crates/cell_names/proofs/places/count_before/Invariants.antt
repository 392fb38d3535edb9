use Rattle.std.proofs.Common.{◌-◌}
use Rattle.cell_names.proofs.PartsSplit.{IsHalved}
use Rattle.cell_names.proofs.places.count_before.Given as goal

abbrev pub decreases-halves : goal.decreases-halves
decreases-halves l = l.high - l.low

abbrev pub invariant-halves : goal.invariant-halves
invariant-halves l = IsHalved l.place l.parts l.low l.high
