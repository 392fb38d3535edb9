use Rattle.std.proofs.Common.{◌≡◌}
use Rattle.statement_checker.proofs.assignments.is_inside_outward.Given as goal
use Rattle.statement_checker.specs.Assignments.{is_inside, is_inside_from}

abbrev pub invariant-frames : goal.invariant-frames
invariant-frames l = is_inside_from l.left l.tables l.at l.token ≡ is_inside l.tables l.frame l.token

abbrev pub decreases-frames : goal.decreases-frames
decreases-frames l = l.left
