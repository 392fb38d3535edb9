use Rattle.std.proofs.Common.{◌≡◌, length}
use Rattle.core_program.specs.ProgramRows.{routine_at}
use Rattle.whole_tables.proofs.whole.all_outermost.Given as goal
use Rattle.whole_tables.specs.{Fits.all_below, Scopes.outermost}

abbrev pub invariant-routines : goal.invariant-routines
invariant-routines l =
    all_below (length l.program.routines) (λ n. outermost l.column (routine_at l.program n))
    ≡ all_below l.left (λ n. outermost l.column (routine_at l.program n))

abbrev pub decreases-routines : goal.decreases-routines
decreases-routines l = l.left
