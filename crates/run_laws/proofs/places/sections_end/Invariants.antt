use Rattle.std.proofs.Common.{◌≡◌, length}
use Rattle.run_laws.proofs.places.sections_end.Given as goal
use Rattle.run_laws.specs.LaidTests.{sections_end}

abbrev pub invariant-sections : goal.invariant-sections
invariant-sections l =
    sections_end (length l.program.rows) l.program l.fn.sections l.fn.place ≡ sections_end l.left l.program l.section l.end

abbrev pub decreases-sections : goal.decreases-sections
decreases-sections l = l.left
