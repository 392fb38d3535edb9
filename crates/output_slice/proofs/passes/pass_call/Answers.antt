use Rattle.std.proofs.Common.{◌+◌, ◌-◌, ◌∙◌, ◌≡◌, Some, ap, arith, drop, length, refl, subst, sym}
use Rattle.std.{proofs.lemmas.Option.slice_get_read, specs.List.slice_get}
use Rattle.output_slice.proofs.{ChildrenInOrder.dropped_all, KeptOfRuns.as_many, KeptOfRuns.call_at, KeptOfRuns.entry_at, KeptOfRuns.row_is}
use Rattle.output_slice.proofs.PassedBack.{begin_here, first_asks, made_is_a_call, none_passed, step_asks, step_passed, whole_passed}
use Rattle.output_slice.proofs.passes.pass_call.Goals as goal
use Rattle.output_slice.specs.{Backward.back, Children.begin_of, Children.pieces_from, Passes.IsPassed}

pub loop-i-init : goal.loop-i-init
loop-i-init c =
    let items = c.in_ok-children.children.items in
    let none = dropped_all items c.len-i.result (omega (arith, c.len-i.ensures, c.in_ok-children.children.ok.0)) in
    record {
      passed = λ r k e q wants g w. subst (λ ks. IsPassed c.args.needs.now c.args.found.now.pairs c.args.found.now.pairs
          (back wants (pieces_from r (e.mark + length e.event.log) ks))) (sym none)
          (none_passed k c.args.call e q wants c.args.needs.now c.args.found.now.pairs w);
      at = λ r k e q. (row_is k c.args.call e c.call-row.result.now q c.call-row.ensures.found).ends
          ∙ ap (begin_of r (e.mark + length e.event.log)) (sym none);
      firsts = λ h. h;
      places = refl;
    }

-- the call that is met stands in the list of them
pub call-made-requires : goal.call-made-requires
call-made-requires c =
    let items = c.in_ok-children.children in
    let k = c.requires.kept.1 in
    let i = c.loop-i.i - 1 in
    let child = c.index-child.result.now in
    let e = entry_at k c.args.call c.requires.a_call in
    let at : slice_get items.items i ≡ Some child =
    slice_get_read items.items items.len i child items.ok.0 (omega (arith, c.loop-i-test.true, c.loop-i.auto.i, c.len-i.ensures)) c.index-child.ensures in
    let inside = made_is_a_call k c.args.call e.0 e.1 i child (ap (λ l. slice_get l i) (sym (c.in_ok-children.ensures c.requires.kept.0 k e.0 e.1)) ∙ at) in
    omega (arith, inside, as_many k)

pub pass_all-requires : goal.pass_all-requires
pass_all-requires c =
    let items = c.in_ok-children.children in
    let k = c.requires.kept.1 in
    let r = c.requires.kept.0 in
    let i = c.loop-i.i - 1 in
    let child = c.index-child.result.now in
    let e = entry_at k c.args.call c.requires.a_call in
    let s : slice_get items.items i ≡ Some child =
    slice_get_read items.items items.len i child items.ok.0 (omega (arith, c.loop-i-test.true, c.loop-i.auto.i, c.len-i.ensures)) c.index-child.ensures in
    let m = call_at k child c.call-made.result.now c.call-made.ensures.found in
    let asks = step_asks k c.args.call e.0 e.1 items.items (c.in_ok-children.ensures r k e.0 e.1) i c.loop-i.i child (omega (arith, c.loop-i-test.true)) s
    m.entry m.a_call
    c.call-row.result.now c.call-row.ensures.found c.call-made.result.now.exit.mark c.loop-i.at m.row_of.ends (c.loop-i.invariant.at r k e.0 e.1) in
    record { in_order = asks.in_order; in_log = asks.in_log; countable = asks.countable }

pub loop-i-preserved : goal.loop-i-preserved
loop-i-preserved c =
    let items = c.in_ok-children.children in
    let i = c.loop-i.i - 1 in
    let child = c.index-child.result.now in
    let s : slice_get items.items i ≡ Some child =
    slice_get_read items.items items.len i child items.ok.0 (omega (arith, c.loop-i-test.true, c.loop-i.auto.i, c.len-i.ensures)) c.index-child.ensures in
    let made = c.call-made.result.now in
    let one : c.loop-i.i ≡ i + 1 = omega (arith, c.loop-i-test.true) in
    record {
      passed = λ r k e q wants g w.
          let m = call_at k child made c.call-made.ensures.found in
          step_passed k c.args.call e q items.items (c.in_ok-children.ensures r k e q) i c.loop-i.i child one s m.entry m.a_call wants
          c.loop-i.needs c.pass_all.new.self c.pass_child.new.needs c.args.found.now.pairs c.loop-i.found.pairs c.pass_child.new.found.pairs
          made.exit.mark c.loop-i.at m.row_of.ends (c.loop-i.invariant.at r k e q) (c.loop-i.invariant.passed r k e q wants g w)
          c.pass_all.ensures (c.in_ok-pass_child.ensures.passed r k m.entry m.a_call wants g);
      at = λ r k e q.
          let m = call_at k child made c.call-made.ensures.found in
          m.row_of.begins ∙ sym (begin_here k c.args.call e q items.items (c.in_ok-children.ensures r k e q) i c.loop-i.i child one s m.entry m.a_call);
      firsts = λ h. c.in_ok-pass_child.ensures.firsts (c.loop-i.invariant.firsts h);
      places = c.in_ok-pass_child.ensures.places ∙ c.loop-i.invariant.places;
    }

pub pass_all-requires-2 : goal.pass_all-requires-2
pass_all-requires-2 c =
    let k = c.requires.kept.1 in
    let r = c.requires.kept.0 in
    let e = entry_at k c.args.call c.requires.a_call in
    let row = c.call-row.result.now in
    let ends : c.loop-i.i ≡ 0 = omega (arith, c.loop-i-test.false) in
    let whole = ap (λ n. drop n c.in_ok-children.children.items) ends ∙ c.in_ok-children.ensures r k e.0 e.1 in
    let asks = first_asks k c.args.call e.0 e.1 row c.call-row.ensures.found row.entry.mark c.loop-i.at
    (row_is k c.args.call e.0 row e.1 c.call-row.ensures.found).begins
    (c.loop-i.invariant.at r k e.0 e.1 ∙ ap (begin_of r (e.0.mark + length e.0.event.log)) whole) in
    record { in_order = asks.in_order; in_log = asks.in_log; countable = asks.countable }

pub returns-clause-passed : goal.returns-clause-passed
returns-clause-passed c r k e q wants g w =
    let row = c.call-row.result.now in
    let ends : c.loop-i.i ≡ 0 = omega (arith, c.loop-i-test.false) in
    let whole = ap (λ n. drop n c.in_ok-children.children.items) ends ∙ c.in_ok-children.ensures r k e q in
    whole_passed k c.args.call e q wants c.loop-i.needs c.pass_all-2.new.self c.args.found.now.pairs c.loop-i.found.pairs row.entry.mark c.loop-i.at
    (row_is k c.args.call e row q c.call-row.ensures.found).begins
    (c.loop-i.invariant.at r k e q ∙ ap (begin_of r (e.mark + length e.event.log)) whole)
    (subst (λ ks. IsPassed c.loop-i.needs c.args.found.now.pairs c.loop-i.found.pairs (back wants (pieces_from r (e.mark + length e.event.log) ks))) whole
    (c.loop-i.invariant.passed r k e q wants g w))
    c.pass_all-2.ensures
