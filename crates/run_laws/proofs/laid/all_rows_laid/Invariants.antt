use Rattle.std.proofs.Common.{◌≡◌}
use Rattle.core_program.specs.ProgramRows.{row_at}
use Rattle.whole_tables.specs.Fits.{all_below}
use Rattle.run_laws.proofs.laid.all_rows_laid.Given as goal
use Rattle.run_laws.specs.LaidTests.{row_laid}

abbrev pub invariant-rows : goal.invariant-rows
invariant-rows l =
    all_below l.fn.rows (λ at. row_laid l.program at (row_at l.program at)) ≡ all_below l.left (λ at. row_laid l.program at (row_at l.program at))

abbrev pub decreases-rows : goal.decreases-rows
decreases-rows l = l.left
