use Rattle.std.{proofs.Common.◌∙◌, proofs.Common.◌≡◌, proofs.Common.ap, proofs.Common.sym, specs.Ordering.nat_cmp, specs.Ordering.ordering_then}
use Rattle.answer_reuse.proofs.ListsCompared.{then_more}
use Rattle.answer_reuse.proofs.classes.compare.Goals as goal
use Rattle.answer_reuse.specs.Sorting.{order_in, tied_order}

pub returns-in-Equal : goal.returns-in-Equal
unfolding order_in
returns-in-Equal c = c.compare_tied.ensures
    ∙ ap (λ o. ordering_then o (tied_order c.args.run.now c.args.one.now c.args.other.now)) (sym c.in-Equal.is ∙ c.cmp.ensures)

pub returns-in_default : goal.returns-in_default
unfolding order_in
returns-in_default c =
    let here = c.cmp.ensures in
    here ∙ sym (then_more (nat_cmp c.args.one.now.digest c.args.other.now.digest) (tied_order c.args.run.now c.args.one.now c.args.other.now)
    (λ e. c.in_default.not-Equal (here ∙ e)))
