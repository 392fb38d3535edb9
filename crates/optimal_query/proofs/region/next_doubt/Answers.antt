use Rattle.std.proofs.Common.{◌∙◌, arith, refl, sym}
use Rattle.call_tree.specs.Clear.{is_clear}
use Rattle.subtree_weights.specs.Searched.{mark_at}
use Rattle.optimal_query.proofs.NextDoubt.{end_inside, found_next, looked_more, none_next}
use Rattle.optimal_query.proofs.region.next_doubt.Goals as goal

pub returns-then-is_wanted : goal.returns-then-is_wanted
returns-then-is_wanted c =
    let inside = end_inside c.args.last.now c.args.accused c.requires.nested c.requires.accused_is_a_call in
    found_next c.args.last.now c.args.marks.now c.args.accused c.args.before c.search.call c.search.invariant (omega (arith, c.end-end.ensures))
    (omega (arith, c.end-end.ensures)) (sym c.is_wanted.ensures ∙ c.if-is_wanted.true)

pub search-preserved : goal.search-preserved
search-preserved c =
    let inside = end_inside c.args.last.now c.args.accused c.requires.nested c.requires.accused_is_a_call in
    rw c.next_place-call.ensures
    (looked_more c.args.last.now c.args.marks.now c.args.accused c.args.before c.search.call c.requires.nested c.search.invariant
    (omega (arith, c.end-end.ensures)) (omega (arith, c.end-end.ensures)) (sym c.is_wanted.ensures ∙ c.if-is_wanted.false)
    (is_clear (mark_at c.args.marks.now c.search.call)) refl)

pub returns : goal.returns
returns c =
    none_next c.args.last.now c.args.marks.now c.args.accused c.args.before c.search.call c.search.invariant (omega (arith, c.end-end.ensures))
