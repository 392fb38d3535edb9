use Rattle.std.proofs.Common.{◌-◌, ◌≡◌, [], length}
use Rattle.core_program.specs.Cells as cells
use Rattle.eval_ops.proofs.ActionsCompose.{CameTo}
use Rattle.eval_ops.proofs.cells.read_cells.Given as goal
use Rattle.eval_ops.specs.Machines.{IsReady, moment_of}

abbrev pub invariant-cells : goal.invariant-cells
invariant-cells l = record {
  ready : IsReady l.machine;
  count : length l.values ≡ l.counter;
  came : CameTo (cells.read_values [] l.addr l.cells) (moment_of l.fn.machine) (cells.read_values l.values l.at (l.cells - l.counter)) (moment_of l.machine);
}
