use Rattle.std.proofs.Common.{subst, sym}
use Rattle.check_steps.proofs.Chains.{chained-none}
use Rattle.check_steps.proofs.frames.Frames.new.Goals as goal
use Rattle.check_steps.specs.Frames.{IsChained}

pub invariant_of-result : goal.invariant_of-result
invariant_of-result c = subst IsChained (sym c.new.ensures.items) chained-none
