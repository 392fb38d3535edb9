use Rattle.std.proofs.Common.{◌∙◌, ◌≡◌, ℕ, Some, ap, arith}
use Rattle.core_program.specs.{ProgramRows.type_at, Transfers.read_for, Tree.ActTree, Tree.bind}
use Rattle.evaluator.proofs.{TransfersByRow.host_by, TransfersByRow.with_number, Turning.moves_on}
use Rattle.evaluator.proofs.reading.read_variable.Goals as goal
use Rattle.evaluator.specs.{Rest.here, Rest.into_variable, Rest.waiting, TransferFamilies.host_in}

pub returns-in-Some-clause-moves : goal.returns-in-Some-clause-moves
returns-in-Some-clause-moves c =
    let p = c.args.program.now in
    let h = here c.args.body.now.home c.args.reading.line in
    let go : ℕ → ActTree = λ host. read_for h host (into_variable p c.args.body.now.home c.args.reading) in
    let e : host_in c.args.reading.of (type_at p c.args.reading.of) ≡ Some c.in-Some.host = cc in
    moves_on (c.read_for.ensures.moves p) (ap (λ t. bind t (waiting p c.args.body.now))
    (host_by c.args.reading.of (type_at p c.args.reading.of) go ∙ ap (λ o. with_number o go)
    e)) (omega arith)
