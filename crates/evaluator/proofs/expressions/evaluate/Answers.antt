use Rattle.std.proofs.Common.{◌∙◌, ◌≡◌, ap, arith, sym}
use Rattle.core_program.specs.{Accesses.is_conformant, ProgramRows.row_at, Tree.Eval, declared.rows.Row.Row}
use Rattle.core_program.specs.Expressions.{access_value, expression_in, of_expression}
use Rattle.eval_ops.specs.Machines.{moment_of}
use Rattle.evaluator.proofs.{ConformantTrees.access_wanted, Moves.comes_then}
use Rattle.evaluator.proofs.Turning.{fails_after, moves_after, moves_after_by, moves_failed, not_spent, part_comes, spent, spent_less}
use Rattle.evaluator.proofs.expressions.evaluate.Goals as goal
use Rattle.evaluator.specs.Rest.{here, waiting}

pub returns-in-Ok-clause-moves : goal.returns-in-Ok-clause-moves
returns-in-Ok-clause-moves c =
    let p = c.args.program.now in
    let h = here c.args.body.now.home c.args.line in
    let e : row_at p c.args.row ≡ Row.Expression c.in-Expression.expression = cc in
    moves_after c.begin_stepped.ensures.moves (comes_then (part_comes p (Eval c.args.row h) (waiting p c.args.body.now) (moment_of c.args.machine.now) _ (ap
    (expression_in p c.args.row h) e)) (spent p h (of_expression p h c.in-Expression.expression) (waiting p c.args.body.now) (moment_of c.args.machine.now)
    (moment_of c.spend.new.machine) c.in-Ok.ensures.act)) (omega (
      arith,
      spent_less (moment_of c.args.machine.now) (moment_of c.spend.new.machine)
          c.in-Ok.ensures.act,
    ))

pub returns-in-Err-clause-moves : goal.returns-in-Err-clause-moves
returns-in-Err-clause-moves c =
    let p = c.args.program.now in
    let h = here c.args.body.now.home c.args.line in
    let e : row_at p c.args.row ≡ Row.Expression c.in-Expression.expression = cc in
    moves_failed c.fail.ensures.fails c.fail.ensures.line c.fail.ensures.home (fails_after p _ _ _ _ _ c.args.line c.in-Err.halt (part_comes p (Eval c.args.row
    h) (waiting p c.args.body.now) (moment_of c.args.machine.now) _ (ap (expression_in p c.args.row h) e)) (not_spent p h (of_expression p h
    c.in-Expression.expression) (waiting p c.args.body.now) c.in-Err.halt (moment_of c.args.machine.now) (moment_of c.spend.new.machine) c.in-Err.ensures.act))

pub returns-in-Access-clause-moves : goal.returns-in-Access-clause-moves
returns-in-Access-clause-moves c =
    let p = c.args.program.now in
    let h = here c.args.body.now.home c.args.line in
    let e : row_at p c.args.row ≡ Row.Access c.in-Access.access = cc in
    moves_after_by (c.wait.ensures.turns p) c.wait.ensures.falls c.wait.ensures.home (part_comes p (Eval c.args.row h) (waiting p c.args.body.now) (moment_of
    c.args.machine.now) _ (ap (expression_in p c.args.row h) e ∙ ap (λ of. access_value p c.args.row of h (is_conformant p of)) (sym
    c.type_accessed.ensures) ∙ access_wanted p c.args.row c.type_accessed.result h (is_conformant p c.type_accessed.result))) (omega arith)
