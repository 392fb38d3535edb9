use Rattle.std.{proofs.Common.◌∙◌, proofs.Common.◌≡◌, proofs.Common.arith, proofs.Common.sym, specs.Cmp.Lexicographic.slice_cmp, specs.Ordering.nat_cmp}
use Rattle.answer_reuse.proofs.ListsCompared.{compared, numbers_apart, numbers_tie, tie_one_more}
use Rattle.answer_reuse.proofs.keys.compare_items.Goals as goal
use Rattle.answer_reuse.specs.Keys.{item_key}

pub items-init : goal.items-init
items-init c = λ k below. absurd (omega arith)

pub items-preserved : goal.items-preserved
items-preserved c = tie_one_more (slice_cmp nat_cmp) (item_key c.args.items.now c.args.place) (item_key c.args.items.now c.args.other)
    c.items.i c.items.invariant
    (sym (compared (slice_cmp nat_cmp) c.cmp.ensures c.item_key.ensures c.item_key-in-items.ensures) ∙ c.in-Equal.is)

pub returns-in_default : goal.returns-in_default
returns-in_default c =
    let here = compared (slice_cmp nat_cmp) c.cmp.ensures c.item_key.ensures c.item_key-in-items.ensures in
    here ∙ sym (numbers_apart (slice_cmp nat_cmp) (item_key c.args.items.now c.args.place) (item_key c.args.items.now c.args.other)
    c.args.looked c.items.i c.items-test.true c.items.invariant (λ e. c.in_default.not-Equal (here ∙ e)))

pub returns : goal.returns
returns c = sym (numbers_tie (slice_cmp nat_cmp) (item_key c.args.items.now c.args.place) (item_key c.args.items.now c.args.other)
    c.args.looked c.items.i c.items-test.false c.items.invariant)
