use Rattle.std.proofs.Common.{◌≡◌}
use Rattle.check_steps.proofs.tables.Tables.find_outward.Given as goal
use Rattle.check_steps.specs.Known.{find, find_from}

abbrev pub invariant-frames : goal.invariant-frames
invariant-frames l = find_from l.left l.self l.at l.name ≡ find l.self l.frame l.name

abbrev pub decreases-frames : goal.decreases-frames
decreases-frames l = l.left
