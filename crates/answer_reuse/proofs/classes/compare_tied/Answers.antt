use Rattle.std.{proofs.Common.◌∙◌, proofs.Common.◌≡◌, proofs.Common.ap, proofs.Common.sym, specs.Ordering.nat_cmp, specs.Ordering.ordering_then}
use Rattle.answer_reuse.proofs.ListsCompared.{then_more}
use Rattle.answer_reuse.proofs.classes.compare_tied.Goals as goal
use Rattle.answer_reuse.specs.Keys.{compare_keys}

pub returns-in-Equal : goal.returns-in-Equal
returns-in-Equal c = c.cmp.ensures ∙ ap (λ o. ordering_then o (nat_cmp c.args.one.now.call c.args.other.now.call)) (sym c.in-Equal.is ∙ c.compare_keys.ensures)

pub returns-in_default : goal.returns-in_default
returns-in_default c =
    let here = c.compare_keys.ensures in
    here ∙ sym (then_more (compare_keys c.args.run.now c.args.one.now c.args.other.now) (nat_cmp c.args.one.now.call c.args.other.now.call)
    (λ e. c.in_default.not-Equal (here ∙ e)))
