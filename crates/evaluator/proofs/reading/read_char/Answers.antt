use Rattle.std.proofs.Common.{arith}
use Rattle.cell_value.specs.declared.values.Value.{Value}
use Rattle.core_program.specs.Input.{next_char}
use Rattle.eval_ops.specs.Machines.{moment_of}
use Rattle.evaluator.proofs.{StepsFall.steps_fall, Turning.did, Turning.fails, Turning.moves_after_by, Turning.moves_failed}
use Rattle.evaluator.proofs.reading.read_char.Goals as goal
use Rattle.evaluator.specs.Rest.{into_variable, waiting}

pub returns-in-Ok-clause-moves : goal.returns-in-Ok-clause-moves
returns-in-Ok-clause-moves c p =
    let m = moment_of c.args.machine.now in
    let m' = moment_of c.next_char.new.machine in
    let l = steps_fall {X = Value} (λ v. v) next_char c.in-Ok.value (moment_of c.args.machine.now) (moment_of c.next_char.new.machine) c.in-Ok.ensures.action in
    moves_after_by (c.locate_read.ensures.turns p) c.locate_read.ensures.falls c.locate_read.ensures.home
    (did {X = Value} p c.args.reading.line next_char (into_variable p c.args.body.now.home c.args.reading) (waiting p c.args.body.now) (λ v. v)
    c.in-Ok.value m m' c.in-Ok.ensures.action)
    (omega (arith, l))

pub returns-in-Err-clause-moves : goal.returns-in-Err-clause-moves
returns-in-Err-clause-moves c p =
    let m = moment_of c.args.machine.now in
    let m' = moment_of c.next_char.new.machine in
    moves_failed c.fail.ensures.fails c.fail.ensures.line c.fail.ensures.home
    (fails {X = Value} p c.args.reading.line next_char (into_variable p c.args.body.now.home c.args.reading) (waiting p c.args.body.now) (λ v. v)
    c.in-Err.halt m m' c.in-Err.ensures.action)
