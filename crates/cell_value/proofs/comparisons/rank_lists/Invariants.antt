use Rattle.std.proofs.Common.{◌≡◌, drop}
use Rattle.cell_value.proofs.comparisons.rank_lists.Given as goal
use Rattle.cell_value.specs.Comparisons.{lists_ranked}

abbrev pub invariant-loop-place : goal.invariant-loop-place
invariant-loop-place l = lists_ranked l.left l.right ≡ lists_ranked (drop l.place l.left) (drop l.place l.right)
