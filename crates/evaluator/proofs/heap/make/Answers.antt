use Rattle.std.proofs.Common.{◌∙◌, ◌≡◌, ℕ, Some, ap, arith}
use Rattle.core_program.specs.{Heap.made_variable, ProgramRows.type_at, Statements.point, Tree.ActTree, Tree.bind, Tree.doing}
use Rattle.eval_ops.specs.Arrays.{size_in}
use Rattle.evaluator.proofs.{TransfersByRow.sized_by, TransfersByRow.with_number, Turning.moves_on}
use Rattle.evaluator.proofs.heap.make.Goals as goal
use Rattle.evaluator.specs.Rest.{here, waiting}

pub returns-in-Some-clause-moves : goal.returns-in-Some-clause-moves
returns-in-Some-clause-moves c =
    let p = c.args.program.now in
    let a = c.args.body.now in
    let go : ℕ → ActTree = λ cells. doing c.args.line (made_variable cells c.args.of) (point (here a.home c.args.line) c.args.access) in
    let e : size_in (type_at p c.args.of) ≡ Some c.in-Some.cells = cc in
    moves_on (c.make_of_size.ensures.moves p) (ap (λ t. bind t (waiting p a)) (sized_by (type_at p c.args.of) go ∙ ap (λ o. with_number o go) e)) (omega arith)
