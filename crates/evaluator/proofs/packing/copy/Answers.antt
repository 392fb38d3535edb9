use Rattle.std.proofs.Common.{if◌then◌else◌, ap, arith}
use Rattle.core_program.specs.{Packing.copies, Statements.finally, Tree.bind}
use Rattle.eval_ops.specs.Machines.{moment_of}
use Rattle.evaluator.proofs.Turning.{moves_on}
use Rattle.evaluator.proofs.packing.copy.Goals as goal
use Rattle.evaluator.specs.Rest.{here, waiting}

pub returns-then-packing-clause-moves : goal.returns-then-packing-clause-moves
returns-then-packing-clause-moves c p =
    let a = c.args.body.now in
    let h = here a.home c.args.places.line in
    let K = waiting p a in
    let e = c.if-packing.true in
    moves_on (c.finally.ensures.moves p (copies c.args.at c.args.places.close c.args.cells) (moment_of c.args.machine.now)
    (moment_of c.copy_cells-done.new.machine)
    c.copy_cells-done.ensures.action) (ap (λ b. bind (finally h (if b then copies c.args.at c.args.places.close c.args.cells else copies c.args.places.close
    c.args.at
    c.args.cells)) K) e) (omega arith)

pub returns-else-packing-clause-moves : goal.returns-else-packing-clause-moves
returns-else-packing-clause-moves c p =
    let a = c.args.body.now in
    let h = here a.home c.args.places.line in
    let K = waiting p a in
    let e = c.if-packing.false in
    moves_on (c.finally-else-packing.ensures.moves p (copies c.args.places.close c.args.at c.args.cells) (moment_of c.args.machine.now) (moment_of
    c.copy_cells-done-else-packing.new.machine) c.copy_cells-done-else-packing.ensures.action) (ap (λ b. bind (finally h (if b then copies c.args.at
    c.args.places.close c.args.cells else copies c.args.places.close c.args.at c.args.cells)) K) e) (omega arith)
