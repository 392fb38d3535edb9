use Rattle.std.proofs.Common.{◌≡◌}
use Rattle.check_steps.proofs.around.Around.descend.Given as goal

abbrev pub invariant-frames : goal.invariant-frames
invariant-frames l = l.self ≡ l.fn.self
