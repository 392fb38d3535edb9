use Rattle.std.proofs.Common.{◌<◌, ◌∙◌, ◌≤◌, arith, length, sym}
use Rattle.question_text.proofs.FramesOutward.{at_first, it_is_further, it_is_here, none_left, none_there}
use Rattle.question_text.proofs.ways_out.call_of_frame.Goals as goal

pub calls-init : goal.calls-init
calls-init c = at_first c.args.calls.now.calls c.args.from c.args.base

pub returns-in-None : goal.returns-in-None
returns-in-None c =
    let t = c.calls-test.true in let e = c.len-end.ensures in
    sym (c.calls.invariant ∙ none_there c.args.calls.now.calls c.calls.counter c.calls.at c.args.base c.frame_of.result
    (let h : c.calls.counter < length c.args.calls.now.calls = omega (arith, t, e) in h) c.frame_of.ensures c.in-None.is)

pub returns-then-frame-base : goal.returns-then-frame-base
returns-then-frame-base c =
    let t = c.calls-test.true in let e = c.len-end.ensures in
    sym (c.calls.invariant ∙ it_is_here c.args.calls.now.calls c.calls.counter c.calls.at c.args.base c.frame_of.result c.in-Some.frame
    (let h : c.calls.counter < length c.args.calls.now.calls = omega (arith, t, e) in h) c.frame_of.ensures c.in-Some.is c.if-frame-base.true)

pub calls-preserved : goal.calls-preserved
calls-preserved c =
    let t = c.calls-test.true in let e = c.len-end.ensures in
    c.calls.invariant ∙ it_is_further c.args.calls.now.calls c.calls.counter c.calls.at c.args.base c.frame_of.result c.in-Some.frame
    (let h : c.calls.counter < length c.args.calls.now.calls = omega (arith, t, e) in h) c.frame_of.ensures c.in-Some.is c.if-frame-base.false

pub returns : goal.returns
returns c =
    let t = c.calls-test.false in let e = c.len-end.ensures in
    sym (c.calls.invariant ∙ none_left c.args.calls.now.calls c.calls.counter c.calls.at c.args.base
    (let h : length c.args.calls.now.calls ≤ c.calls.counter = omega (arith, t, e) in h))
