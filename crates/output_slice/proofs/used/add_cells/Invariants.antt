use Rattle.std.proofs.Common.{◌++◌, ◌≡◌, take}
use Rattle.output_slice.proofs.used.add_cells.Given as goal
use Rattle.output_slice.specs.{Backward.Wanted, Backward.used_cells, Backward.with_number, Needed.HasCells}

abbrev pub invariant-loop-i : goal.invariant-loop-i
invariant-loop-i l = (w : Wanted) → HasCells l.cells w.cells
    → l.pairs ≡ l.initial.pairs ++ with_number l.call (used_cells w (take l.i l.changes))
