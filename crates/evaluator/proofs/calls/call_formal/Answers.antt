use Rattle.std.proofs.Common.{◌∙◌, ◌≡◌, ap, arith, sym}
use Rattle.core_program.specs.{Accesses.with_formal, Cells.routine_out, Expressions.enter, ProgramRows.row_at, Tree.bind, Tree.doing}
use Rattle.core_program.specs.declared.rows.{NameRow.NameRow, Row.Row}
use Rattle.eval_ops.specs.Machines.{moment_of}
use Rattle.evaluator.proofs.Turning.{moves_on}
use Rattle.evaluator.proofs.calls.call_formal.Goals as goal
use Rattle.evaluator.specs.Rest.{after_call, lists_of, top_passed, under_passed}

pub returns-in-Name-RoutineFormal-clause-moves : goal.returns-in-Name-RoutineFormal-clause-moves
returns-in-Name-RoutineFormal-clause-moves c =
    let p = c.args.program.now in
    let a = c.args.body.now in
    let K = under_passed p a in
    let passed = top_passed (lists_of a) in
    let n = c.in-Name-RoutineFormal in
    let e : row_at p c.args.formal ≡ Row.Name (NameRow.RoutineFormal n.place n.field-0-1 n.heading) =
    sym c.row.ensures ∙ n.is ∙ ap Row.Name n.field-0-is in
    moves_on (c.enter_found.ensures.moves (routine_out p n.heading c.args.levels a.home.base n.place) (moment_of c.args.machine.now)
    c.routine_out-found.ensures.action) (ap (λ r. bind (with_formal r
    (λ place heading. doing c.args.line (routine_out p heading c.args.levels a.home.base place) (λ x. enter p x.0 x.1 passed (after_call c.args.procedure))))
    K) e) (omega arith)
