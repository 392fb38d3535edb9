use Rattle.std.proofs.Common.{◌≡◌}
use Rattle.run_laws.proofs.blocks.some_has.Given as goal
use Rattle.run_laws.specs.LaidOut.{some_has}

abbrev pub invariant-tokens : goal.invariant-tokens
invariant-tokens l = some_has l.program l.number l.routine l.place l.routine.statements ≡ some_has l.program l.number l.routine l.place l.before

abbrev pub decreases-tokens : goal.decreases-tokens
decreases-tokens l = l.before
