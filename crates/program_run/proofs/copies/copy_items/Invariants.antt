use Rattle.std.proofs.Common.{◌++◌, ◌≡◌, drop, length}
use Rattle.program_run.proofs.copies.copy_items.Given as goal

abbrev pub invariant-items : goal.invariant-items
invariant-items l = (l.copy ++ drop l.i l.items ≡ l.items) × (length l.copy ≡ l.i)
