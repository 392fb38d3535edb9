use Rattle.std.proofs.Common.{◌≡◌}
use Rattle.run_laws.proofs.places.names_end.Given as goal
use Rattle.run_laws.specs.LaidTests.{names_end}

abbrev pub invariant-names : goal.invariant-names
invariant-names l =
    names_end l.fn.names l.program l.mode l.cells l.fn.first l.fn.place ≡ names_end l.left l.program l.mode l.cells l.token l.end

abbrev pub decreases-names : goal.decreases-names
decreases-names l = l.left
