use Rattle.std.specs.{Cmp.Lexicographic.slice_cmp, Ordering.nat_cmp}
use Rattle.answer_reuse.proofs.ListsCompared.{TieBelow}
use Rattle.answer_reuse.proofs.keys.compare_items.Given as goal
use Rattle.answer_reuse.specs.Keys.{item_key}

abbrev pub invariant-items : goal.invariant-items
invariant-items l = TieBelow (slice_cmp nat_cmp) (item_key l.items l.place) (item_key l.items l.other) l.i
