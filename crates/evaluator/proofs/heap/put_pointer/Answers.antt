use Rattle.std.proofs.Common.{ap, arith, sum_by, sym}
use Rattle.core_program.specs.{Cells.write, Tree.bind, Tree.doing}
use Rattle.core_program.specs.Statements as meaning
use Rattle.eval_ops.specs.Machines.{moment_of}
use Rattle.evaluator.proofs.Turning.{moves_from}
use Rattle.evaluator.proofs.heap.put_pointer.Goals as goal
use Rattle.evaluator.specs.{Rest.top, Rest.values_of, Weight.task_weight}

pub returns-clause-moves : goal.returns-clause-moves
returns-clause-moves c =
    let p = c.args.program.now in
    let a = write c.args.addr (top (values_of c.args.body.now)) in
    let e = ap (sum_by task_weight) c.take_value-value.ensures.tasks in
    moves_from (c.finally.ensures.moves p a (moment_of c.args.machine.now) (moment_of c.write_cell-done.new.machine) (rw c.take_value-value.ensures.result at
    c.write_cell-done.ensures.action)) (ap (λ k. bind (doing c.args.line a (λ _. meaning.nothing)) k) (sym (c.take_value-value.ensures.waits p))) (omega (
      arith,
      e,
    )) c.take_value-value.ensures.home
