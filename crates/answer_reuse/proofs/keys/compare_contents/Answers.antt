use Rattle.std.{proofs.Common.◌∙◌, proofs.Common.◌≡◌, proofs.Common.ap, proofs.Common.sym, specs.Ordering.ordering_then}
use Rattle.answer_reuse.proofs.ListsCompared.{then_more}
use Rattle.answer_reuse.proofs.keys.compare_contents.Goals as goal
use Rattle.answer_reuse.specs.Keys.{args_key, key_of, lists_order, work_order}

pub returns-in-Equal : goal.returns-in-Equal
returns-in-Equal c = c.compare_work.ensures
    ∙ ap (λ o. ordering_then o (work_order (key_of c.args.run.now c.args.one.now) (key_of c.args.run.now c.args.other.now)))
    (sym c.in-Equal.is ∙ c.compare_args.ensures ∙ (λ i. lists_order (args_key (c.as_slice.ensures i)) (args_key (c.as_slice-2.ensures i))))

pub returns-in_default : goal.returns-in_default
returns-in_default c =
    let here = c.compare_args.ensures ∙ (λ i. lists_order (args_key (c.as_slice.ensures i)) (args_key (c.as_slice-2.ensures i))) in
    here ∙ sym (then_more (lists_order (args_key c.args.one.now.row.now.args) (args_key c.args.other.now.row.now.args))
    (work_order (key_of c.args.run.now c.args.one.now) (key_of c.args.run.now c.args.other.now)) (λ e. c.in_default.not-Equal (here ∙ e)))
