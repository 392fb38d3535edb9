use Rattle.std.proofs.Common.{◌≡◌, length}
use Rattle.core_program.specs.ProgramRows.{routine_at}
use Rattle.whole_tables.specs.Fits.{all_below}
use Rattle.run_laws.proofs.laid.all_routines_laid.Given as goal
use Rattle.run_laws.specs.LaidTests.{routine_laid}

abbrev pub invariant-routines : goal.invariant-routines
invariant-routines l =
    all_below (length l.program.routines) (λ n. routine_laid l.program n (routine_at l.program n))
    ≡ all_below l.left (λ n. routine_laid l.program n (routine_at l.program n))

abbrev pub decreases-routines : goal.decreases-routines
decreases-routines l = l.left
