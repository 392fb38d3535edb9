use Rattle.std.proofs.Common.{◌≡◌, ap, arith}
use Rattle.core_program.specs.{Accesses.access_in, ProgramRows.row_at, Tree.Locate, declared.rows.Row.Row}
use Rattle.eval_ops.specs.Machines.{moment_of}
use Rattle.evaluator.proofs.Turning.{moves_after, part_comes}
use Rattle.evaluator.proofs.accesses.locate.Goals as goal
use Rattle.evaluator.specs.Rest.{here, waiting}

pub returns-in-Access-clause-moves : goal.returns-in-Access-clause-moves
returns-in-Access-clause-moves c =
    let p = c.args.program.now in
    let h = here c.args.body.now.home c.args.line in
    moves_after c.begin_access.ensures.moves (part_comes p (Locate c.args.row c.args.target h) (waiting p c.args.body.now) (moment_of c.args.machine.now) _ (let
    e : row_at p c.args.row ≡ Row.Access c.in-Access.access = cc in ap (access_in p c.args.row c.args.target h) e)) (omega arith)
