use Rattle.std.specs.{Cmp.Lexicographic.slice_cmp, Option.option_cmp, Ordering.nat_cmp}
use Rattle.answer_reuse.proofs.ListsCompared.{TieBelow}
use Rattle.answer_reuse.proofs.keys.compare_touches.Given as goal
use Rattle.answer_reuse.specs.Keys.{touch_key}

abbrev pub invariant-touches : goal.invariant-touches
invariant-touches l = TieBelow (option_cmp (slice_cmp nat_cmp)) (touch_key l.log l.row) (touch_key l.log l.other) l.i
