use Rattle.std.proofs.Common.{◌≡◌, ap, refl}
use Rattle.core_program.specs.{ProgramRows.row_at, Tree.Turn, declared.rows.Row.Row}
use Rattle.core_program.specs.Statements as meaning
use Rattle.evaluator.proofs.{Moves.comes_same, Moves.comes_then, Turning.part_comes, Turning.turns_after}
use Rattle.evaluator.proofs.statements.turn_again.Goals as goal
use Rattle.evaluator.specs.Rest.{here, waiting}

pub returns-in-Statement-clause-turns : goal.returns-in-Statement-clause-turns
returns-in-Statement-clause-turns c m u same =
    let p = c.args.program.now in
    let h = here c.args.body.now.home c.args.line in
    let rest = waiting p c.args.body.now in
    turns_after p _ _ m m m c.turn_of.result c.turn_of.new.body (comes_then (comes_same same) (part_comes p (Turn c.args.row h) rest m _ (let e : row_at p
    c.args.row ≡ Row.Statement c.in-Statement.statement = cc in ap (meaning.of_turn c.args.row h) e))) (c.turn_of.ensures.turns p m _ refl)
