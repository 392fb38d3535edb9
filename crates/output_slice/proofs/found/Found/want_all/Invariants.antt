use Rattle.std.proofs.Common.{slice_range}
use Rattle.output_slice.proofs.found.Found.want_all.Given as goal
use Rattle.output_slice.specs.{Backward.wants_at, Needed.AreAsked}

abbrev pub invariant-loop-i : goal.invariant-loop-i
invariant-loop-i l = AreAsked (wants_at l.call (slice_range l.self.pairs l.first l.i)) l.gathered l.needs
