use Rattle.std.proofs.Common.{arith}
use Rattle.cell_value.specs.declared.values.Value.{Value}
use Rattle.core_program.specs.{Heap.made_variable, Statements.point}
use Rattle.eval_ops.specs.Machines.{moment_of}
use Rattle.evaluator.proofs.{StepsFall.steps_fall, Turning.did, Turning.fails, Turning.moves_after_by, Turning.moves_failed}
use Rattle.evaluator.proofs.heap.make_of_size.Goals as goal
use Rattle.evaluator.specs.Rest.{here, waiting}

pub returns-in-Ok-clause-moves : goal.returns-in-Ok-clause-moves
returns-in-Ok-clause-moves c p =
    let a = c.args.body.now in
    let m = moment_of c.args.machine.now in
    let m' = moment_of c.make_variable.new.machine in
    let l = steps_fall {X = Value} (λ v. v) (made_variable c.args.cells c.args.of) c.in-Ok.pointer m m' c.in-Ok.ensures.action in
    moves_after_by (c.hold.ensures.turns p) c.hold.ensures.falls c.hold.ensures.home (did {X = Value} p c.args.line (made_variable c.args.cells c.args.of)
    (point (here a.home c.args.line) c.args.access) (waiting p a) (λ v. v) c.in-Ok.pointer m m' c.in-Ok.ensures.action) (omega (arith, l))

pub returns-in-Err-clause-moves : goal.returns-in-Err-clause-moves
returns-in-Err-clause-moves c p =
    let a = c.args.body.now in
    let m = moment_of c.args.machine.now in
    let m' = moment_of c.make_variable.new.machine in
    moves_failed c.fail.ensures.fails c.fail.ensures.line c.fail.ensures.home (fails {X = Value} p c.args.line (made_variable c.args.cells c.args.of) (point
    (here a.home c.args.line) c.args.access) (waiting p a) (λ v. v) c.in-Err.halt m m' c.in-Err.ensures.action)
