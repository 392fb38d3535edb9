use Rattle.std.proofs.Common.{◌≡◌, true}
use Rattle.run_laws.proofs.actuals.names_meet.Given as goal
use Rattle.run_laws.specs.LaidTests.{names_meet}

abbrev pub invariant-names : goal.invariant-names
invariant-names l = names_meet l.fn.names l.program l.mode l.of true l.fn.at ≡ names_meet l.left l.program l.mode l.of l.first l.item

abbrev pub decreases-names : goal.decreases-names
decreases-names l = l.left
