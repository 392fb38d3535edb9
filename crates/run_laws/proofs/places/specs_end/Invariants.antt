use Rattle.std.proofs.Common.{◌≡◌, length}
use Rattle.run_laws.proofs.places.specs_end.Given as goal
use Rattle.run_laws.specs.LaidTests.{specs_end}

abbrev pub invariant-specs : goal.invariant-specs
invariant-specs l = specs_end (length l.program.rows) l.program l.fn.of l.fn.place ≡ specs_end l.left l.program l.at l.end

abbrev pub decreases-specs : goal.decreases-specs
decreases-specs l = l.left
