use Rattle.std.proofs.Common.{subst, sym}
use Rattle.check_steps.proofs.frames.Frames.beyond.Goals as goal
use Rattle.check_steps.specs.Frames.{IsChained}

pub beyond_kept-requires : goal.beyond_kept-requires
beyond_kept-requires c = subst IsChained (sym c.deref.ensures.value) c.self.invariant
