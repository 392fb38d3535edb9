use Rattle.std.proofs.Common.{◌*◌, ◌+◌, ◌∙◌, ◌≡◌, ◌≤◌, ap, arith, length, sum_by, take}
use Rattle.answer_reuse.proofs.RowsSummed.{sum_more, take_whole}
use Rattle.answer_reuse.proofs.classes.touches_between.Goals as goal
use Rattle.answer_reuse.specs.Keys.{touches_made}

pub calls-preserved : goal.calls-preserved
calls-preserved c =
    let more = sum_more touches_made c.args.calls.now.calls c.calls.call c.call.result.now c.call.ensures.found in
    let one = c.from-sum.ensures ∙ c.touches_made.ensures in
    record {
      sum = omega (arith, more, one, c.calls.invariant.sum);
      fits = omega (arith, c.calls.invariant.fits, c.from-sum.ensures, c.touches_made.type_inv);
    }

pub overflow_add-sum : goal.overflow_add-sum
overflow_add-sum c = omega
    (arith, c.calls.invariant.fits, c.from-sum.ensures, c.touches_made.type_inv, c.calls-test.true, c.len-call-end.ensures, c.requires.few)

pub returns : goal.returns
returns c = c.calls.invariant.sum
    ∙ ap (sum_by touches_made) (take_whole c.calls.call c.args.calls.now.calls (omega (arith, c.calls-test.false, c.len-call-end.ensures)))
