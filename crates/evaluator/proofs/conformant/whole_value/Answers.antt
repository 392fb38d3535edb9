use Rattle.std.proofs.Common.{arith}
use Rattle.core_program.specs.{Conformant.WholeArray, Tree.Cells, Tree.Ret}
use Rattle.eval_ops.specs.{Conformant.conformant_whole, Conformant.whole, Machines.moment_of, declared.conformant.ArrayWhole.ArrayWhole}
use Rattle.evaluator.proofs.{StepsFall.steps_fall, Turning.did, Turning.fails, Turning.moves_after_by, Turning.moves_failed}
use Rattle.evaluator.proofs.conformant.whole_value.Goals as goal
use Rattle.evaluator.specs.Rest.{waiting}

pub returns-in-Ok-clause-moves : goal.returns-in-Ok-clause-moves
returns-in-Ok-clause-moves c =
    let p = c.args.program.now in
    let act = conformant_whole p c.args.of c.args.addr c.args.frame in
    let old = moment_of c.args.machine.now in
    let new = moment_of c.conformant_whole.new.machine in
    moves_after_by (c.give_cells.ensures.turns p) c.give_cells.ensures.falls c.give_cells.ensures.home (did {X = ArrayWhole} p c.args.line act
    (λ (w : WholeArray). Ret (Cells w.cells)) (waiting p c.args.body.now) whole c.in-Ok.whole old new c.in-Ok.ensures.action) (omega (
      arith,
      steps_fall {X = ArrayWhole} whole act c.in-Ok.whole old new c.in-Ok.ensures.action,
    ))

pub returns-in-Err-clause-moves : goal.returns-in-Err-clause-moves
returns-in-Err-clause-moves c =
    let p = c.args.program.now in
    moves_failed c.fail.ensures.fails c.fail.ensures.line c.fail.ensures.home (fails {X = ArrayWhole} p c.args.line
    (conformant_whole p c.args.of c.args.addr c.args.frame) (λ (w : WholeArray). Ret (Cells w.cells)) (waiting p c.args.body.now) whole c.in-Err.halt
    (moment_of c.args.machine.now) (moment_of c.conformant_whole.new.machine) c.in-Err.ensures.action)
