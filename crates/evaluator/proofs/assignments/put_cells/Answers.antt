use Rattle.std.proofs.Common.{ap, arith, sum_by, sym}
use Rattle.core_program.specs.{Cells.writes, Tree.bind, Tree.doing}
use Rattle.core_program.specs.Statements as meaning
use Rattle.eval_ops.specs.Machines.{moment_of}
use Rattle.evaluator.proofs.Turning.{moves_from}
use Rattle.evaluator.proofs.assignments.put_cells.Goals as goal
use Rattle.evaluator.specs.{Rest.lists_of, Rest.top_list, Weight.task_weight}

pub returns-clause-moves : goal.returns-clause-moves
returns-clause-moves c =
    let p = c.args.program.now in
    let e = ap (sum_by task_weight) c.take_list-list.ensures.tasks in
    moves_from (c.finally.ensures.moves p (writes c.args.addr (top_list (lists_of c.args.body.now))) (moment_of c.args.machine.now) (moment_of
    c.write_cells-done.new.machine) (rw (c.take_list-list.ensures.result) at c.write_cells-done.ensures.action)) (ap (λ k. bind (doing c.args.line (writes
    c.args.addr (top_list (lists_of c.args.body.now))) (λ _. meaning.nothing)) k) (sym (c.take_list-list.ensures.waits p))) (omega (arith, e))
    c.take_list-list.ensures.home
