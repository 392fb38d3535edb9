use Rattle.std.proofs.Common.{◌≡◌, ap, arith}
use Rattle.core_program.specs.{ProgramRows.row_at, Tree.Exec, declared.rows.Row.Row}
use Rattle.core_program.specs.Statements as meaning
use Rattle.eval_ops.specs.Machines.{moment_of}
use Rattle.evaluator.proofs.Turning.{moves_after, part_comes}
use Rattle.evaluator.proofs.statements.execute.Goals as goal
use Rattle.evaluator.specs.Rest.{here, waiting}

pub returns-in-Statement-clause-moves : goal.returns-in-Statement-clause-moves
returns-in-Statement-clause-moves c =
    let p = c.args.program.now in
    let h = here c.args.body.now.home c.args.line in
    let rest = waiting p c.args.body.now in
    moves_after (c.begin_statement.ensures.moves p (let e : row_at p c.args.row ≡ Row.Statement c.in-Statement.statement = cc in e)) (part_comes p (Exec
    c.args.row h) rest (moment_of c.args.machine.now) _ (let e : row_at p c.args.row ≡ Row.Statement c.in-Statement.statement = cc in ap (meaning.statement_in p
    c.args.row h) e)) (omega arith)
