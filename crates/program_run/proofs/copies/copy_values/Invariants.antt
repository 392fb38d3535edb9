use Rattle.std.proofs.Common.{◌++◌, ◌≡◌, drop, length}
use Rattle.program_run.proofs.copies.copy_values.Given as goal

abbrev pub invariant-values : goal.invariant-values
invariant-values l = (l.copy ++ drop l.i l.values ≡ l.values) × (length l.copy ≡ l.i)
