use Rattle.std.proofs.Common.{◌≡◌, Some, ap, arith, slice_get}
use Rattle.core_program.specs.{Accesses.locate_field, Accesses.with_record, Tree.bind}
use Rattle.eval_ops.specs.Machines.{moment_of}
use Rattle.evaluator.proofs.{Moves.comes_same, Moves.comes_then, Turning.moves_after, Turning.spent, Turning.spent_less}
use Rattle.evaluator.proofs.accesses.within.Goals as goal
use Rattle.evaluator.specs.Rest.{here, waiting}

pub returns-in-Some-clause-moves : goal.returns-in-Some-clause-moves
returns-in-Some-clause-moves c =
    let p = c.args.program.now in
    let b = c.args.body.now in
    let e : slice_get b.home.records c.args.place ≡ Some c.in-Some.addr = cc in
    moves_after c.locate_field.ensures.moves (comes_then (spent p (here b.home c.args.line) (with_record (slice_get b.home.records c.args.place) (λ addr.
    locate_field p c.args.target c.args.line addr c.args.field)) (waiting p b) (moment_of c.args.machine.now) (moment_of c.spend.new.machine)
    c.in-Ok.ensures.act) (comes_same (ap (λ o. bind (with_record o (λ addr. locate_field p c.args.target c.args.line addr c.args.field)) (waiting p b)) e)))
    (omega (arith, spent_less (moment_of c.args.machine.now) (moment_of c.spend.new.machine) c.in-Ok.ensures.act))
