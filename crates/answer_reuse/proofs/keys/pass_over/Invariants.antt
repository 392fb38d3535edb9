use Rattle.std.proofs.Common.{◌-◌, ◌≡◌, map, slice_range}
use Rattle.cell_value.specs.Effects.{looked_of}
use Rattle.answer_book.specs.Numbers.{numbers_below}
use Rattle.answer_reuse.proofs.keys.pass_over.Given as goal
use Rattle.answer_reuse.specs.Keys.{touch_key, touches_digest}

abbrev pub invariant-touches : goal.invariant-touches
invariant-touches l = record {
  digest : l.digest ≡ touches_digest 0 (map (touch_key l.log l.row) (numbers_below (l.i - l.row.entry.mark)));
  looked : l.looked ≡ looked_of l.row.entry.place (slice_range l.log l.row.entry.mark l.i);
}
