use Rattle.std.specs.{Cmp.Lexicographic.slice_cmp, Option.option_cmp, Ordering.nat_cmp}
use Rattle.answer_reuse.proofs.{KeysInOrder.options_tie, ListsCompared.compared}
use Rattle.answer_reuse.proofs.keys.compare_touch.Goals as goal
use Rattle.answer_reuse.specs.Keys.{touch_key}

pub returns-then-is_same_at : goal.returns-then-is_same_at
returns-then-is_same_at c = options_tie (touch_key c.args.log.now c.args.row.now c.args.i) (touch_key c.args.log.now c.args.other.now c.args.i)
    (c.is_same_at.ensures c.if-is_same_at.true)

pub returns-else-is_same_at : goal.returns-else-is_same_at
returns-else-is_same_at c = compared (option_cmp (slice_cmp nat_cmp)) c.cmp.ensures c.touch_key.ensures c.touch_key-else-is_same_at.ensures
