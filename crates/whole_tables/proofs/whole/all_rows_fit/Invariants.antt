use Rattle.std.proofs.Common.{◌≡◌}
use Rattle.core_program.specs.ProgramRows.{row_at}
use Rattle.whole_tables.proofs.whole.all_rows_fit.Given as goal
use Rattle.whole_tables.specs.Fits.{all_below, row_fits}

abbrev pub invariant-rows : goal.invariant-rows
invariant-rows l =
    all_below l.fn.rows (λ at. row_fits l.program at (row_at l.program at))
    ≡ all_below l.left (λ at. row_fits l.program at (row_at l.program at))

abbrev pub decreases-rows : goal.decreases-rows
decreases-rows l = l.left
