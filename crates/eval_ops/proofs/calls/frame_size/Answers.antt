use Rattle.std.proofs.{Common.arith, lemmas.List.length-drop}
use Rattle.eval_ops.proofs.calls.frame_size.Goals as goal

pub returns-clause-size : goal.returns-clause-size
returns-clause-size c =
    let a = c.len.ensures in
    let b = c.saturating_sub-copies.ensures in
    let d = c.from.ensures in
    let e = c.from-2.ensures in
    let f = length-drop c.args.routine.parameters c.args.args.now in
    omega (arith, a, b, d, e, f)
