use Rattle.std.proofs.Common.{arith, refl}
use Rattle.cell_value.specs.declared.values.Value.{Value}
use Rattle.core_program.specs.{Cells.write, State.moved}
use Rattle.eval_ops.specs.Machines.{moment_of}
use Rattle.evaluator.proofs.Turning.{moves_on}
use Rattle.evaluator.proofs.counting.undefine.Goals as goal

pub returns-clause-moves : goal.returns-clause-moves
returns-clause-moves c p =
    moves_on (c.finally.ensures.moves p (write (moved c.args.body.now.home.base c.args.place) Value.Undefined) (moment_of c.args.machine.now) (moment_of
    c.write_cell-done.new.machine) (rw c.moved.ensures at c.write_cell-done.ensures.action)) refl (omega arith)
