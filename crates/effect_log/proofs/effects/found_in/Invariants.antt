use Rattle.std.proofs.Common.{slice_range}
use Rattle.effect_log.proofs.effects.found_in.Given as goal
use Rattle.effect_log.specs.Marks.{PagesHold}

abbrev pub invariant-loop-i : goal.invariant-loop-i
invariant-loop-i l = PagesHold l.base l.place l.log (slice_range l.log l.from l.i) l.found
