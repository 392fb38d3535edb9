use Rattle.std.proofs.Common.{slice_range}
use Rattle.effect_log.proofs.by_maps.found_in.Given as goal
use Rattle.effect_log.specs.Passing.{IsFound}

abbrev pub invariant-loop-i : goal.invariant-loop-i
invariant-loop-i l = IsFound l.base l.place (slice_range l.log l.from l.i) l.found
