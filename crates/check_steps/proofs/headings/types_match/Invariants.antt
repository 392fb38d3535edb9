use Rattle.std.proofs.Common.{◌-◌, ◌≡◌, length}
use Rattle.check_steps.proofs.headings.types_match.Given as goal
use Rattle.check_steps.specs.Headings.{types_match}

abbrev pub invariant-specs : goal.invariant-specs
invariant-specs l = types_match (length l.program.rows - l._passed) l.program l.at l.other ≡ types_match (length l.program.rows) l.program l.left l.right
