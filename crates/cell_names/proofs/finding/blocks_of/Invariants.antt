use Rattle.std.proofs.Common.{◌++◌, ◌≡◌, drop}
use Rattle.cell_names.proofs.finding.blocks_of.Given as goal
use Rattle.cell_names.specs.{Finding.blocks_of, Places.finds}

abbrev pub invariant-touches : goal.invariant-touches
invariant-touches l = finds (l.blocks ++ blocks_of (drop l.place l.log)) ≡ finds (blocks_of l.log)
