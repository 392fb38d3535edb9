use Rattle.std.proofs.Common.{◌==◌, ◌∙◌, ◌≡◌, ap, arith, false, true}
use Rattle.std.proofs.lemmas.Bool.Decides.{nat_tests}
use Rattle.core_program.specs.{Expressions.of_actual, ProgramRows.row_at, Tree.Actuals, Tree.Pass, Tree.Ret, declared.rows.Row.Row}
use Rattle.eval_ops.specs.Machines.{moment_of}
use Rattle.evaluator.proofs.Turning.{ends_list, goes_on, moves_after, moves_after_by, part_comes}
use Rattle.evaluator.proofs.actuals.pass_actuals.Goals as goal
use Rattle.evaluator.specs.Rest.{below_passed, here, lists_of, resume, tasks_of, top_passed, values_of}

pub returns-then-at-eq-LIST_END-clause-moves : goal.returns-then-at-eq-LIST_END-clause-moves
returns-then-at-eq-LIST_END-clause-moves c =
    let p = c.args.program.now in
    let a = c.args.body.now in
    let h = here a.home c.args.line in
    let ls = lists_of a in
    let off : (c.args.at == 0) ≡ true = grind (arith, nat_tests, c.if-at-eq-LIST_END.true) in
    moves_after_by (c.go.ensures.turns p) c.go.ensures.falls c.go.ensures.home (part_comes p (Pass c.args.at (top_passed ls) h) (resume p a.home (tasks_of a)
    (values_of a) (below_passed ls)) (moment_of c.args.machine.now) _
    (ends_list c.args.at (Ret (Actuals (top_passed ls))) (of_actual p (top_passed ls) h (row_at p
    c.args.at)) off)) (omega arith)

pub returns-in-Item-clause-moves : goal.returns-in-Item-clause-moves
returns-in-Item-clause-moves c =
    let p = c.args.program.now in
    let a = c.args.body.now in
    let h = here a.home c.args.line in
    let ls = lists_of a in
    let on : (c.args.at == 0) ≡ false = grind (arith, nat_tests, c.if-at-eq-LIST_END.false) in
    let e : row_at p c.args.at ≡ Row.Item c.in-Item.item = cc in
    moves_after c.pass_actual.ensures.moves (part_comes p (Pass c.args.at (top_passed ls) h) (resume p a.home (tasks_of a) (values_of a) (below_passed ls))
    (moment_of c.args.machine.now) _ (goes_on c.args.at (Ret (Actuals (top_passed ls))) (of_actual p (top_passed ls) h (row_at p c.args.at)) on
    ∙ ap (of_actual p
    (top_passed ls) h) e)) (omega arith)
