use Rattle.std.proofs.Common.{[], List, arith}
use Rattle.cell_value.specs.declared.values.Value.{Value}
use Rattle.core_program.specs.{Cells.read_values, Tree.Cells, Tree.Ret}
use Rattle.eval_ops.specs.Machines.{moment_of}
use Rattle.evaluator.proofs.{StepsFall.steps_fall, Turning.did, Turning.fails, Turning.moves_after_by, Turning.moves_failed}
use Rattle.evaluator.proofs.accesses.variable_cells.Goals as goal
use Rattle.evaluator.specs.Rest.{waiting}

pub returns-in-Ok-clause-moves : goal.returns-in-Ok-clause-moves
returns-in-Ok-clause-moves c =
    let p = c.args.program.now in
    moves_after_by (c.give_cells.ensures.turns p) c.give_cells.ensures.falls c.give_cells.ensures.home (did {X = List Value} p c.args.line (read_values []
    c.args.addr c.args.cells) (λ vs. Ret (Cells vs)) (waiting p c.args.body.now) (λ vs. vs) c.in-Ok.values (moment_of c.args.machine.now) (moment_of
    c.read_cells.new.machine) c.in-Ok.ensures.action) (omega (
      arith,
      steps_fall {X = List Value} (λ vs. vs) (read_values [] c.args.addr c.args.cells)
          c.in-Ok.values (moment_of c.args.machine.now) (moment_of c.read_cells.new.machine) c.in-Ok.ensures.action,
    ))

pub returns-in-Err-clause-moves : goal.returns-in-Err-clause-moves
returns-in-Err-clause-moves c =
    let p = c.args.program.now in
    moves_failed c.fail.ensures.fails c.fail.ensures.line c.fail.ensures.home (fails {X = List Value} p c.args.line (read_values [] c.args.addr c.args.cells) (λ
    vs. Ret (Cells vs)) (waiting p c.args.body.now) (λ vs. vs) c.in-Err.halt (moment_of c.args.machine.now) (moment_of c.read_cells.new.machine)
    c.in-Err.ensures.action)
