use Rattle.std.proofs.Common.{◌<◌, ◌∙◌, ◌≤◌, ap, arith, map, subst, sym}
use Rattle.std.specs.{Cmp.Lexicographic.slice_cmp, Option.option_cmp, Ordering.nat_cmp}
use Rattle.answer_book.specs.Numbers.{numbers_below}
use Rattle.answer_reuse.proofs.ListsCompared.{numbers_apart, numbers_tie, tie_one_more}
use Rattle.answer_reuse.proofs.keys.compare_touches.Goals as goal
use Rattle.answer_reuse.specs.Keys.{touch_key, touches_key, touches_made, touches_order}

pub touches-init : goal.touches-init
touches-init c = λ k below. absurd (omega arith)

pub touches-preserved : goal.touches-preserved
touches-preserved c = tie_one_more (option_cmp (slice_cmp nat_cmp)) (touch_key c.args.log.now c.args.row.now) (touch_key c.args.log.now c.args.other.now)
    c.touches.i c.touches.invariant (sym c.compare_touch.ensures ∙ c.in-Equal.is)

pub returns-in_default : goal.returns-in_default
returns-in_default c =
    let here = c.compare_touch.ensures in
    here ∙ sym (numbers_apart (option_cmp (slice_cmp nat_cmp)) (touch_key c.args.log.now c.args.row.now) (touch_key c.args.log.now c.args.other.now)
    (touches_made c.args.row.now) c.touches.i (subst (λ n. c.touches.i < n) c.touches_made-i-end.ensures c.touches-test.true) c.touches.invariant
    (λ e. c.in_default.not-Equal (here ∙ e)))
    ∙ ap (λ n. touches_order (touches_key c.args.log.now c.args.row.now) (map (touch_key c.args.log.now c.args.other.now) (numbers_below n))) c.requires

pub returns : goal.returns
returns c = sym (numbers_tie (option_cmp (slice_cmp nat_cmp)) (touch_key c.args.log.now c.args.row.now) (touch_key c.args.log.now c.args.other.now)
    (touches_made c.args.row.now) c.touches.i (subst (λ n. n ≤ c.touches.i) c.touches_made-i-end.ensures c.touches-test.false) c.touches.invariant)
    ∙ ap (λ n. touches_order (touches_key c.args.log.now c.args.row.now) (map (touch_key c.args.log.now c.args.other.now) (numbers_below n))) c.requires
