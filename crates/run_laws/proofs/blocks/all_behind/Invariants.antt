use Rattle.std.proofs.Common.{◌≡◌}
use Rattle.run_laws.proofs.blocks.all_behind.Given as goal
use Rattle.run_laws.specs.LaidOut.{all_behind}

abbrev pub invariant-tokens : goal.invariant-tokens
invariant-tokens l = all_behind l.program l.number l.routine l.routine.statements ≡ all_behind l.program l.number l.routine l.before

abbrev pub decreases-tokens : goal.decreases-tokens
decreases-tokens l = l.before
