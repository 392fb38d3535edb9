use Rattle.std.proofs.Common.{◌+◌, ◌-◌, ◌∙◌, ◌∷◌, ◌≡◌, [], ap, arith, drop, slice_range, sum_by, sym, take, zero-add}
use Rattle.std.proofs.lemmas.List.Sums.{sum_by-append}
use Rattle.effect_log.proofs.SlicesGoOn.{slice_more}
use Rattle.call_tree.specs.Recording.{Recording}
use Rattle.output_slice.proofs.KeptOfRuns.{as_many, call_at, inside, row_is, told_at}
use Rattle.output_slice.proofs.slices.touches_of_all.Goals as goal
use Rattle.output_slice.specs.Touches.{touches_of}

pub are_numbered-requires : goal.are_numbered-requires
are_numbered-requires c = record { all_left = ap (λ (x : Recording). x.open_calls) c.requires.kept.1.kept.calls }

pub overflow_add-number-end : goal.overflow_add-number-end
overflow_add-number-end c =
    let k = c.requires.kept.1 in
    let x = call_at k c.args.call c.call-first.result.now c.call-first.ensures.found in
    omega (arith, x.row_of.last, inside k c.args.call x.entry x.a_call, as_many k, c.are_numbered.ensures.few)

pub overflow_sub-touches : goal.overflow_sub-touches
overflow_sub-touches c =
    let told = told_at c.requires.kept.1 c.loop-number.number c.call-row.result.now c.call-row.ensures.found in
    omega (arith, told.in_order)

pub loop-number-init : goal.loop-number-init
loop-number-init c = record {
  sum = ap (λ n. sum_by touches_of (take n (drop c.args.call c.args.run.now.calls.calls))) (let z : 0 ≡ c.args.call - c.args.call = omega arith in z);
  most = omega arith;
}

pub call-row-requires : goal.call-row-requires
call-row-requires c =
    let k = c.requires.kept.1 in
    let x = call_at k c.args.call c.call-first.result.now c.call-first.ensures.found in
    omega (arith, x.row_of.last, inside k c.args.call x.entry x.a_call, as_many k, c.loop-number-test.true)

pub loop-number-preserved : goal.loop-number-preserved
loop-number-preserved c =
    let rows = c.args.run.now.calls.calls in
    let number = c.loop-number.number in
    let row = c.call-row.result.now in
    let told = told_at c.requires.kept.1 number row c.call-row.ensures.found in
    record {
      sum = ap (λ n. n + touches_of row) c.loop-number.invariant.sum
          ∙ sym (ap (sum_by touches_of) (slice_more rows c.args.call number row c.loop-number.auto.number c.call-row.ensures.found)
          ∙ sum_by-append touches_of (slice_range rows c.args.call number) (row ∷ [])
          ∙ ap (λ n. sum_by touches_of (slice_range rows c.args.call number) + n) (zero-add (touches_of row)));
      most = omega (arith, c.loop-number.invariant.most, c.loop-number.auto.number, told.in_order);
    }

pub returns : goal.returns
returns c r k e q =
    let rows = c.args.run.now.calls.calls in
    let i = row_is k c.args.call e c.call-first.result.now q c.call-first.ensures.found in
    let past = c.loop-number-test.false in
    let most = c.loop-number.auto.number-end (omega (arith, i.last)) in
    c.loop-number.invariant.sum
    ∙ ap (λ n. sum_by touches_of (take n (drop c.args.call rows)))
    (let z : c.loop-number.number - c.args.call ≡ e.event.below + 1 = omega (arith, past, most, i.last) in z)
