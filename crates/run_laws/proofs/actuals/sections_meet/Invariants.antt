use Rattle.std.proofs.Common.{◌≡◌, length}
use Rattle.run_laws.proofs.actuals.sections_meet.Given as goal
use Rattle.run_laws.specs.LaidTests.{sections_meet}

abbrev pub invariant-sections : goal.invariant-sections
invariant-sections l =
    sections_meet (length l.program.rows) l.program l.fn.sections l.fn.at ≡ sections_meet l.left l.program l.section l.item

abbrev pub decreases-sections : goal.decreases-sections
decreases-sections l = l.left
