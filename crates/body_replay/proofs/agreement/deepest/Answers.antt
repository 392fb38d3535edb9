use Rattle.std.proofs.Common.{◌+◌, ◌-◌, ◌∙◌, ap, arith, drop, fold, max, sym, take}
use Rattle.call_tree.specs.Recording.{depths_of}
use Rattle.body_replay.proofs.AgreementByParts.{one_more_depth}
use Rattle.body_replay.proofs.agreement.deepest.Goals as goal

pub below-preserved : goal.below-preserved
below-preserved c =
    let rows = c.args.calls.now.calls in
    let last = c.args.row.now.last in
    let k = c.below.below in
    ap (λ d. fold max d (take (last + 1 - (k + 1)) (drop (k + 1) (depths_of rows)))) c.max-deepest.ensures
    ∙ sym (ap (fold max c.below.deepest) (one_more_depth rows c.call.result.now (last + 1 - k) (last + 1 - (k + 1)) k c.call.ensures.found
    (omega (arith, c.below-test.true))))
    ∙ c.below.invariant
