use Rattle.std.proofs.Common.{ap, arith, sum_by, sym}
use Rattle.core_program.specs.{ProgramRows.row_at, ProgramRows.type_at, Tree.bind, Tree.doing, Variants.assign_to, Variants.tag_accessed}
use Rattle.core_program.specs.Statements as meaning
use Rattle.eval_ops.specs.Machines.{moment_of}
use Rattle.evaluator.proofs.Turning.{moves_from}
use Rattle.evaluator.proofs.assignments.put.Goals as goal
use Rattle.evaluator.specs.{Rest.top, Rest.values_of, Weight.task_weight}

pub returns-clause-moves : goal.returns-clause-moves
returns-clause-moves c =
    let p = c.args.program.now in
    let e = ap (sum_by task_weight) c.take_value-value.ensures.tasks in
    moves_from (c.finally.ensures.moves p (assign_to p (tag_accessed p (row_at p c.args.target)) (type_at p c.args.of) c.args.addr (top (values_of
    c.args.body.now))) (moment_of c.args.machine.now) (moment_of c.assign_to-done.new.machine) (rw (
      c.type_row.ensures,
      c.tag_accessed-tag.ensures,
      c.row.ensures,
      c.take_value-value.ensures.result,
    ) at c.assign_to-done.ensures.action)) (ap (λ k. bind (doing c.args.line (assign_to p (tag_accessed p
    (row_at p c.args.target)) (type_at p c.args.of) c.args.addr (top (values_of c.args.body.now))) (λ _. meaning.nothing)) k) (sym
    (c.take_value-value.ensures.waits p))) (omega (arith, e)) c.take_value-value.ensures.home
