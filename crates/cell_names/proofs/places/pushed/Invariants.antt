use Rattle.std.proofs.Common.{◌++◌, ◌-◌, ◌≡◌, drop, length}
use Rattle.cell_names.proofs.places.pushed.Given as goal
use Rattle.cell_names.specs.Places.{finds}

abbrev pub decreases-parts : goal.decreases-parts
decreases-parts l = length l.parts - l.at

abbrev pub invariant-parts : goal.invariant-parts
invariant-parts l = finds (l.places ++ drop l.at l.parts) ≡ finds l.parts
