use Rattle.std.proofs.Common.{◌∙◌, ◌≡◌, ap, arith, sym}
use Rattle.core_program.specs.{ProgramRows.row_at, ProgramRows.type_at, Tree.bind, declared.rows.Row.Row}
use Rattle.core_program.specs.Transfers.{into, read_for, received, with_host}
use Rattle.evaluator.proofs.Turning.{moves_on}
use Rattle.evaluator.proofs.reading.receive_actual.Goals as goal
use Rattle.evaluator.specs.Rest.{here, waiting}

pub returns-in-Access-clause-moves : goal.returns-in-Access-clause-moves
returns-in-Access-clause-moves c =
    let p = c.args.program.now in
    let h = here c.args.body.now.home c.args.line in
    let e : row_at p c.args.access ≡ Row.Access c.in-Access.accessed = cc in
    moves_on c.read_variable.ensures.moves (ap (λ t. bind t (waiting p c.args.body.now)) (ap (received p h c.args.access c.args.next) e ∙ ap (λ of. with_host of
    (type_at p of) (λ host. read_for h host (into p h c.args.access of c.args.next))) (sym c.type_accessed-of.ensures))) (omega arith)
