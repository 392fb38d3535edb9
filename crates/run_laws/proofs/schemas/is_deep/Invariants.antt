use Rattle.std.proofs.Common.{◌≡◌}
use Rattle.run_laws.proofs.schemas.is_deep.Given as goal
use Rattle.run_laws.specs.LaidTests.{is_deep}

abbrev pub invariant-levels : goal.invariant-levels
invariant-levels l = is_deep l.fn.levels l.program l.of ≡ is_deep l.left l.program l.at

abbrev pub decreases-levels : goal.decreases-levels
decreases-levels l = l.left
