use Rattle.std.proofs.Common.{◌∙◌, ◌≡◌, ap, arith}
use Rattle.core_program.specs.{Accesses.with_formal, Cells.routine_out, Expressions.pass_routine, Tree.bind}
use Rattle.core_program.specs.declared.rows.{NameRow.NameRow, Row.Row}
use Rattle.eval_ops.specs.Machines.{moment_of}
use Rattle.evaluator.proofs.Turning.{moves_on}
use Rattle.evaluator.proofs.actuals.pass_formal.Goals as goal
use Rattle.evaluator.specs.Rest.{here, lists_of, top_passed, under_passed}

pub returns-in-Name-RoutineFormal-clause-moves : goal.returns-in-Name-RoutineFormal-clause-moves
returns-in-Name-RoutineFormal-clause-moves c =
    let p = c.args.program.now in
    let a = c.args.body.now in
    let n = c.in-Name-RoutineFormal in
    let e : c.args.formal ≡ Row.Name (NameRow.RoutineFormal n.place n.field-0-1 n.heading) = n.is ∙ ap Row.Name (rw n.is at n.field-0-is) in
    moves_on (c.add_routine.ensures.moves (routine_out p n.heading c.args.levels a.home.base n.place) (moment_of c.args.machine.now)
    (moment_of c.formal_out-found.new.machine) c.formal_out-found.ensures.action) (ap (λ r. bind (with_formal r (λ place heading.
    pass_routine (here a.home c.args.line) c.args.next (top_passed (lists_of a)) (routine_out p heading c.args.levels a.home.base place))) (under_passed p a))
    e)
    (omega arith)
