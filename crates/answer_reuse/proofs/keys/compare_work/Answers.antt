use Rattle.std.{proofs.Common.◌∙◌, proofs.Common.◌≡◌, proofs.Common.ap, proofs.Common.sym, specs.Ordering.ordering_then}
use Rattle.answer_reuse.proofs.ListsCompared.{then_more}
use Rattle.answer_reuse.proofs.keys.compare_work.Goals as goal
use Rattle.answer_reuse.specs.Keys.{items_key, lists_order, touches_key, touches_order}

pub returns-in-Equal : goal.returns-in-Equal
returns-in-Equal c =
    let one = c.args.one.now in
    let other = c.args.other.now in
    let input = c.args.run.now.input in
    let items = items_key input one.row.now.entry.place one.looked in
    c.compare_items.ensures
    ∙ ap (λ n. lists_order items (items_key input other.row.now.entry.place n)) c.requires.looked
    ∙ ap (λ o. ordering_then o (lists_order items (items_key input other.row.now.entry.place other.looked))) (sym c.in-Equal.is ∙ c.compare_touches.ensures)

pub returns-in_default : goal.returns-in_default
returns-in_default c =
    let one = c.args.one.now in
    let other = c.args.other.now in
    let here = c.compare_touches.ensures in
    here ∙ sym (then_more (touches_order (touches_key c.args.run.now.log one.row.now) (touches_key c.args.run.now.log other.row.now))
    (lists_order (items_key c.args.run.now.input one.row.now.entry.place one.looked) (items_key c.args.run.now.input other.row.now.entry.place other.looked))
    (λ e. c.in_default.not-Equal (here ∙ e)))
