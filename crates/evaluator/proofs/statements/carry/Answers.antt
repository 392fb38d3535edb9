use Rattle.std.proofs.Common.{◌≡◌, ap, arith}
use Rattle.core_program.specs.{ProgramRows.row_at, Tree.bind, declared.rows.Row.Row}
use Rattle.evaluator.proofs.Turning.{moves_on}
use Rattle.evaluator.proofs.statements.carry.Goals as goal
use Rattle.evaluator.specs.Rest.{carried, waiting}

pub returns-in-Statement-clause-moves : goal.returns-in-Statement-clause-moves
returns-in-Statement-clause-moves c =
    let p = c.args.program.now in
    let rest = waiting p c.args.body.now in
    moves_on c.carry_on.ensures.moves (ap (λ r. bind (carried p c.args.body.now.home c.args.row r) rest) (let e : row_at p c.args.row ≡ Row.Statement
    c.in-Statement.statement = cc in e)) (omega arith)
