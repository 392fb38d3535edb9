use Rattle.std.proofs.Common.{◌≡◌}
use Rattle.check_steps.proofs.tables.Tables.label_outward.Given as goal
use Rattle.check_steps.specs.Known.{find_label, find_label_from}

abbrev pub invariant-frames : goal.invariant-frames
invariant-frames l = find_label_from l.left l.self l.at l.value ≡ find_label l.self l.frame l.value

abbrev pub decreases-frames : goal.decreases-frames
decreases-frames l = l.left
