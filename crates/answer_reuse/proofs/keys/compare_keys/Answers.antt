use Rattle.std.proofs.Common.{◌∙◌, ◌≡◌, ap, sym}
use Rattle.std.specs.{Cmp.Lexicographic.slice_cmp, Ordering.nat_cmp, Ordering.ordering_then}
use Rattle.answer_reuse.proofs.ListsCompared.{compared, then_more}
use Rattle.answer_reuse.proofs.keys.compare_keys.Goals as goal
use Rattle.answer_reuse.specs.Keys.{compare_keys, contents_order, key_head, key_of}

pub returns-in-Equal : goal.returns-in-Equal
unfolding compare_keys
returns-in-Equal c =
    let here = compared (slice_cmp nat_cmp) c.cmp.ensures c.head_of.ensures c.head_of-2.ensures in
    c.compare_contents.ensures
    ∙ ap (λ o. ordering_then o (contents_order (key_of c.args.run.now c.args.one.now) (key_of c.args.run.now c.args.other.now))) (sym c.in-Equal.is ∙ here)

pub returns-in_default : goal.returns-in_default
unfolding compare_keys
returns-in_default c =
    let here = compared (slice_cmp nat_cmp) c.cmp.ensures c.head_of.ensures c.head_of-2.ensures in
    here ∙ sym (then_more
    (slice_cmp nat_cmp (key_head c.args.one.now.row.now c.args.one.now.looked) (key_head c.args.other.now.row.now c.args.other.now.looked))
    (contents_order (key_of c.args.run.now c.args.one.now) (key_of c.args.run.now c.args.other.now)) (λ e. c.in_default.not-Equal (here ∙ e)))
