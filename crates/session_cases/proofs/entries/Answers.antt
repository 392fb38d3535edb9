use Rattle.std.proofs.Common.{◌∙◌, ap, arith, length, length-append}
use Rattle.session_cases.proofs.entries.Goals as goal

pub loop-number-preserved : goal.loop-number-preserved
loop-number-preserved c =
    let long = ap length c.in_ok-push.ensures.added ∙ length-append c.loop-number.entries _ in
    let now = c.loop-number.invariant in
    omega (arith, long, now)
