use Rattle.std.proofs.Common.{◌∙◌, ◌≡◌, ℕ, Some, ap}
use Rattle.core_program.specs.{Accesses.eval, Output.scalar_text, ProgramRows.type_at, Transfers.print, Tree.ActTree, Tree.bind}
use Rattle.evaluator.proofs.TransfersByRow.{host_by, with_number}
use Rattle.evaluator.proofs.writing.begin_width.Goals as goal
use Rattle.evaluator.specs.{Rest.here, Rest.waiting, TransferFamilies.host_in}

pub returns-in-Some-clause-turns : goal.returns-in-Some-clause-turns
returns-in-Some-clause-turns c m u same =
    let p = c.args.program.now in
    let h = here c.args.body.now.home c.args.line in
    let go : ℕ → ActTree = λ host. eval c.args.width h (λ w. print h c.args.next (scalar_text host c.args.value) (Some w)) in
    let e : host_in c.args.of (type_at p c.args.of) ≡ Some c.in-Some.host = cc in
    c.hold.ensures.turns p m u (same ∙ ap (λ t. bind t (waiting p c.args.body.now)) (host_by c.args.of (type_at p c.args.of) go ∙ ap (λ o. with_number o go) e))
