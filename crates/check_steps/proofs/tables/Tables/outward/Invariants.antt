use Rattle.std.proofs.Common.{◌≡◌}
use Rattle.check_steps.proofs.tables.Tables.outward.Given as goal
use Rattle.check_steps.specs.Known.{find}

abbrev pub invariant-frames : goal.invariant-frames
invariant-frames l = find l.self l.at l.name ≡ find l.self l.frame l.name
