use Rattle.std.proofs.Common.{◌≡◌}
use Rattle.core_program.specs.ProgramRows.{row_at}
use Rattle.whole_tables.proofs.whole.all_rows_scoped.Given as goal
use Rattle.whole_tables.specs.{Fits.all_below, Scopes.scoped_row}

abbrev pub invariant-rows : goal.invariant-rows
invariant-rows l =
    all_below l.fn.rows (λ at. scoped_row l.program l.column l.fn.rows at (row_at l.program at))
    ≡ all_below l.left (λ at. scoped_row l.program l.column l.fn.rows at (row_at l.program at))

abbrev pub decreases-rows : goal.decreases-rows
decreases-rows l = l.left
