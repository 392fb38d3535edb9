use Rattle.std.proofs.Common.{◌∙◌, ◌≡◌, ℕ, None, Some, ap, arith}
use Rattle.core_program.specs.{Output.scalar_text, ProgramRows.type_at, Transfers.print, Tree.ActTree, Tree.bind}
use Rattle.evaluator.proofs.{TransfersByRow.host_by, TransfersByRow.with_number, Turning.moves_on}
use Rattle.evaluator.proofs.writing.write_plain.Goals as goal
use Rattle.evaluator.specs.{Rest.here, Rest.waiting, TransferFamilies.host_in}

pub returns-in-Some-clause-moves : goal.returns-in-Some-clause-moves
returns-in-Some-clause-moves c =
    let p = c.args.program.now in
    let h = here c.args.body.now.home c.args.line in
    let go : ℕ → ActTree = λ host. print h c.args.next (scalar_text host c.args.value) None in
    let e : host_in c.args.of (type_at p c.args.of) ≡ Some c.in-Some.host = cc in
    moves_on (c.write.ensures.moves p) (ap (λ t. bind t (waiting p c.args.body.now)) (host_by c.args.of (type_at p c.args.of) go ∙ ap (λ o. with_number o go)
    e)) (omega arith)
