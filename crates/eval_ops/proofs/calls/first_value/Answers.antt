use Rattle.std.proofs.{Common.arith, lemmas.List.length-drop}
use Rattle.eval_ops.proofs.FrameCells.{copied_cell, other_cell, parameter_cell}
use Rattle.eval_ops.proofs.calls.first_value.Goals.{else-at-routine-2-via-else-at-routine-2, else-at-routine-2-via-then-at-routine-2+else-at-length}
use Rattle.eval_ops.proofs.calls.first_value.Goals as goal

pub returns-then-at-routine : goal.returns-then-at-routine
returns-then-at-routine c =
    copied_cell c.args.routine c.args.args.now c.args.at c.at.result (let h = c.if-at-routine.true in omega (arith, h)) c.at.ensures.found

pub returns-then-at-length : goal.returns-then-at-length
returns-then-at-length c =
    parameter_cell c.args.routine c.args.args.now c.args.at c.at-then-at-length.result (let h = c.if-at-routine.false in omega (arith, h))
    (let h = c.if-at-routine-2.true in omega (arith, h)) c.at-then-at-length.ensures.found

pub returns-else-at-routine-2 : goal.returns-else-at-routine-2
returns-else-at-routine-2 c =
    let below = c.if-at-routine.false in
    elim c.else-at-routine-2.branch [
      | else-at-routine-2-via-then-at-routine-2+else-at-length w ↦ other_cell c.args.routine c.args.args.now c.args.at (omega (arith, below))
          (let h = w.if-at-length.false in let l = c.len-length.ensures in omega (arith, h, l))
      | else-at-routine-2-via-else-at-routine-2 w ↦ other_cell c.args.routine c.args.args.now c.args.at (omega (arith, below))
          (let h = w.if-at-routine-2.false in omega (arith, h))
    ]

pub overflow_add-routine : goal.overflow_add-routine
overflow_add-routine c =
    let l = c.len-length.ensures in
    let f = length-drop c.args.routine.parameters c.args.args.now in
    let h = c.if-at-routine.true in
    let i = c.requires.inside in
    omega (arith, l, f, h, i)
