use Rattle.std.proofs.Common.{◌∙◌, ◌≡◌, ℕ, Some, ap, arith}
use Rattle.core_program.specs.{Heap.dispose, ProgramRows.type_at, Statements.finally, Tree.ActTree, Tree.bind}
use Rattle.eval_ops.specs.{Arrays.size_in, Machines.moment_of}
use Rattle.evaluator.proofs.{TransfersByRow.sized_by, TransfersByRow.with_number, Turning.moves_on}
use Rattle.evaluator.proofs.heap.dispose_of.Goals as goal
use Rattle.evaluator.specs.Rest.{here, waiting}

pub returns-in-Some-clause-moves : goal.returns-in-Some-clause-moves
returns-in-Some-clause-moves c =
    let p = c.args.program.now in
    let a = c.args.body.now in
    let go : ℕ → ActTree = λ cells. finally (here a.home c.args.line) (dispose cells c.args.value) in
    let e : size_in (type_at p c.args.of) ≡ Some c.in-Some.cells = cc in
    moves_on (c.finally.ensures.moves p (dispose c.in-Some.cells c.args.value) (moment_of c.args.machine.now) (moment_of c.dispose-done.new.machine)
    c.dispose-done.ensures.action) (ap (λ t. bind t (waiting p a)) (sized_by (type_at p c.args.of) go ∙ ap (λ o. with_number o go) e)) (omega arith)
