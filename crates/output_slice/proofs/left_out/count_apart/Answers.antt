use Rattle.std.proofs.Common.{if◌then◌else◌, ◌+◌, ◌-◌, ◌∙◌, ◌≡◌, ap, arith, length, slice_index, sym}
use Rattle.call_tree.specs.Recording.{lasts_of, parents_of}
use Rattle.output_slice.proofs.LeftOutStays.{at_most_one, count_more, count_most, last_inside, last_there}
use Rattle.output_slice.proofs.left_out.count_apart.Goals as goal
use Rattle.output_slice.specs.LeftOut.{is_left_out, left_out}

pub overflow_add-below-end : goal.overflow_add-below-end
overflow_add-below-end c =
    let l = last_inside c.args.calls.now.calls c.are_numbered.ensures.numbered c.args.call c.call-row.result.now c.call-row.ensures.found in
    omega (arith, l.1, c.are_numbered.ensures.few)

pub loop-below-init : goal.loop-below-init
loop-below-init c = ap (λ n. length (left_out c.args.debug.now (parents_of c.args.calls.now.calls) c.args.slice.now.pairs c.args.call n))
    (let z : 0 ≡ (c.args.call + 1) - (c.args.call + 1) = omega arith in z)

pub is_apart-requires-clause-a_call : goal.is_apart-requires-clause-a_call
is_apart-requires-clause-a_call c =
    let l = last_inside c.args.calls.now.calls c.are_numbered.ensures.numbered c.args.call c.call-row.result.now c.call-row.ensures.found in
    omega (arith, l.1, c.loop-below-test.true)

pub overflow_add-count : goal.overflow_add-count
overflow_add-count c =
    let l = last_inside c.args.calls.now.calls c.are_numbered.ensures.numbered c.args.call c.call-row.result.now c.call-row.ensures.found in
    let most = count_most (is_left_out c.args.debug.now (parents_of c.args.calls.now.calls) c.args.slice.now.pairs) (c.args.call + 1)
    (c.loop-below.below - (c.args.call + 1)) in
    omega (arith, l.1, c.loop-below-test.true, c.are_numbered.ensures.few, c.loop-below.invariant, most, c.one_if-count.ensures, at_most_one c.is_apart.result)

pub loop-below-preserved : goal.loop-below-preserved
loop-below-preserved c =
    let call = c.args.call in
    let below = c.loop-below.below in
    let p = is_left_out c.args.debug.now (parents_of c.args.calls.now.calls) c.args.slice.now.pairs in
    let m = below - (call + 1) in
    let so_far = left_out c.args.debug.now (parents_of c.args.calls.now.calls) c.args.slice.now.pairs call in
    ap (λ k. k + c.one_if-count.result) c.loop-below.invariant
    ∙ ap (λ k. length (so_far m) + k) (c.one_if-count.ensures ∙ ap (λ b. if b then 1 else 0) (c.is_apart.ensures
    ∙ ap p (let z : below ≡ (call + 1) + m = omega (arith, c.loop-below.auto.below) in z)))
    ∙ sym (count_more p (call + 1) m)
    ∙ ap (λ n. length (so_far n)) (let z : m + 1 ≡ (below + 1) - (call + 1) = omega (arith, c.loop-below.auto.below) in z)

pub returns-clause-many : goal.returns-clause-many
returns-clause-many c =
    let rows = c.args.calls.now.calls in
    let call = c.args.call in
    let row = c.call-row.result.now in
    let l = last_inside rows c.are_numbered.ensures.numbered call row c.call-row.ensures.found in
    let ends = c.loop-below.auto.below-end (omega (arith, l.0)) in
    c.loop-below.invariant ∙ ap (λ n. length (left_out c.args.debug.now (parents_of rows) c.args.slice.now.pairs call n))
    (let z : c.loop-below.below - (call + 1) ≡ slice_index (lasts_of rows) call - call = omega
    (arith, ends, c.loop-below-test.false, last_there rows call row c.call-row.ensures.found) in z)

pub returns-clause-few : goal.returns-clause-few
returns-clause-few c =
    let rows = c.args.calls.now.calls in
    let row = c.call-row.result.now in
    let l = last_inside rows c.are_numbered.ensures.numbered c.args.call row c.call-row.ensures.found in
    let ends = c.loop-below.auto.below-end (omega (arith, l.0)) in
    let most = count_most (is_left_out c.args.debug.now (parents_of rows) c.args.slice.now.pairs) (c.args.call + 1) (c.loop-below.below - (c.args.call + 1)) in
    omega (arith, l.1, ends, c.are_numbered.ensures.few, c.loop-below.invariant, most)
