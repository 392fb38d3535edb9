use Rattle.std.proofs.Common.{◌++◌, ◌-◌, ◌≡◌, Some, arith, reverse, subst}
use Rattle.question_text.proofs.FramesOutward.{row_on}
use Rattle.question_text.proofs.opened.push_row.Goals as goal
use Rattle.question_text.specs.Frames.{opened_from}

pub returns-else-is_call-clause-added : goal.returns-else-is_call-clause-added
returns-else-is_call-clause-added c =
    let t = c.calls-test.true in
    row_on c.args.calls.now.calls c.calls.left (Some c.calls.number) c.calls.frames.items c.push.new.self.items _ c.frame_of.result c.in-Some.frame
    (omega (arith, t)) c.frame_of.ensures c.in-Some.is c.in_ok-push-in-Some.ensures.items c.calls.invariant.so_far

pub calls-preserved : goal.calls-preserved
calls-preserved c =
    let t = c.calls-test.true in let f = c.calls.invariant.fewer in
    record {
      fewer = omega (arith, f);
      so_far = subst (λ o. opened_from c.args.calls.now.calls (c.calls.left - 1) o ++ reverse c.push.new.self.items
          ≡ opened_from c.args.calls.now.calls c.args.most (Some c.args.from) ++ reverse c.args.frames.now.items) (c.is_call.ensures c.if-is_call.true)
          (row_on c.args.calls.now.calls c.calls.left (Some c.calls.number) c.calls.frames.items c.push.new.self.items _ c.frame_of.result c.in-Some.frame
          (omega (arith, t)) c.frame_of.ensures c.in-Some.is c.in_ok-push-in-Some.ensures.items c.calls.invariant.so_far);
    }
