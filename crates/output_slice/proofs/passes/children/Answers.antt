use Rattle.std.proofs.Common.{◌++◌, ◌+◌, ◌-◌, ◌∙◌, ◌≡◌, ap, append-nil, arith, drop, sym}
use Rattle.call_tree.specs.Recording.{Recording}
use Rattle.output_slice.proofs.ChildrenInOrder.{child_next, children_end}
use Rattle.output_slice.proofs.KeptOfRuns.{as_many, call_at, inside, row_is}
use Rattle.output_slice.proofs.passes.children.Goals as goal
use Rattle.output_slice.specs.{Children.children_in, KeptRuns.below_of}

pub are_numbered-requires : goal.are_numbered-requires
are_numbered-requires c = record { all_left = ap (λ (x : Recording). x.open_calls) c.requires.kept.1.kept.calls }

pub overflow_add-end : goal.overflow_add-end
overflow_add-end c =
    let k = c.requires.kept.1 in
    let x = call_at k c.args.call c.call-row.result.now c.call-row.ensures.found in
    omega (arith, x.row_of.last, inside k c.args.call x.entry x.a_call, as_many k, c.are_numbered.ensures.few)

pub below-init : goal.below-init
below-init c = record {
  from = omega arith;
  found = λ r k e q. ap (λ l. l ++ children_in (c.args.call + 1) 0 (drop ((c.args.call + 1) - (c.args.call + 1)) (below_of r c.args.call e)))
      c.new-children.ensures.items
      ∙ ap (λ n. children_in (c.args.call + 1) 0 (drop n (below_of r c.args.call e)))
      (let z : (c.args.call + 1) - (c.args.call + 1) ≡ 0 = omega arith in z);
}

pub call-made-requires : goal.call-made-requires
call-made-requires c =
    let k = c.requires.kept.1 in
    let x = call_at k c.args.call c.call-row.result.now c.call-row.ensures.found in
    omega (arith, x.row_of.last, inside k c.args.call x.entry x.a_call, as_many k, c.below-test.true)

pub overflow_add-next-in-below : goal.overflow_add-next-in-below
overflow_add-next-in-below c =
    let k = c.requires.kept.1 in
    let x = call_at k c.below.next c.call-made.result.now c.call-made.ensures.found in
    omega (arith, x.row_of.last, inside k c.below.next x.entry x.a_call, as_many k, c.are_numbered.ensures.few)

pub below-preserved : goal.below-preserved
below-preserved c = record {
  from = (
      let x = call_at c.requires.kept.1 c.below.next c.call-made.result.now c.call-made.ensures.found in
      omega (arith, x.row_of.last, c.below.invariant.from)
      );
  found = λ r k e q. (
      let x = call_at k c.below.next c.call-made.result.now c.call-made.ensures.found in
      let i = row_is k c.args.call e c.call-row.result.now q c.call-row.ensures.found in
      child_next r.events c.args.call e.event.below c.below.next (c.call-made.result.now.last + 1) x.entry c.below.children.items _ _ x.a_call
      c.below.invariant.from (omega (arith, c.below-test.true, i.last)) (omega (arith, x.row_of.last)) c.in_ok-push.ensures.items
      (c.below.invariant.found r k e q)
      );
}

pub below-smaller : goal.below-smaller
below-smaller c =
    let x = call_at c.requires.kept.1 c.below.next c.call-made.result.now c.call-made.ensures.found in
    omega (arith, x.row_of.last, c.below-test.true)

pub returns : goal.returns
returns c r k e q =
    let i = row_is k c.args.call e c.call-row.result.now q c.call-row.ensures.found in
    sym (append-nil c.below.children.items)
    ∙ ap (λ l. c.below.children.items ++ l) (sym (children_end r.events c.args.call e.event.below c.below.next (omega (arith, c.below-test.false, i.last))))
    ∙ c.below.invariant.found r k e q
