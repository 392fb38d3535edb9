use Rattle.std.proofs.Common.{◌∙◌, ◌≡◌, ℕ, Some, ap, arith}
use Rattle.core_program.specs.{Packing.first_moved, ProgramRows.row_at, Tree.ActTree, Tree.bind, Tree.doing, declared.components.Components.Components}
use Rattle.eval_ops.specs.Arrays.{array_in}
use Rattle.evaluator.proofs.{TransfersByRow.array_by, TransfersByRow.with_found, Turning.moves_on}
use Rattle.evaluator.proofs.packing.move_by.Goals as goal
use Rattle.evaluator.specs.Rest.{copied, waiting}

pub returns-in-Some-clause-moves : goal.returns-in-Some-clause-moves
returns-in-Some-clause-moves c =
    let p = c.args.program.now in
    let a = c.args.places in
    let go : ℕ → Components → ActTree = (λ cells close. doing a.line (first_moved c.args.unpacked close a.wide c.args.value)
    (copied c.args.body.now.home c.args.packing a cells)) in
    let e : array_in p (row_at p a.packed) ≡ Some (c.in-Some.cells, c.in-Some.packed) = cc in
    moves_on (c.move_from.ensures.moves p (first_moved c.args.unpacked c.in-Some.packed a.wide c.args.value) c.first_moved-start.ensures)
    (ap (λ t. bind t (waiting p c.args.body.now)) (array_by p (row_at p a.packed) go ∙ ap (λ o. with_found o go) e)) (omega arith)
