use Rattle.std.proofs.Common.{drop}
use Rattle.core_program.specs.Cells as cells
use Rattle.eval_ops.proofs.ActionsCompose.{CameTo}
use Rattle.eval_ops.proofs.cells.write_cells.Given as goal
use Rattle.eval_ops.specs.Machines.{IsReady, moment_of}

abbrev pub invariant-cells : goal.invariant-cells
invariant-cells l = record {
  ready : IsReady l.machine;
  came : CameTo (cells.writes l.addr l.values) (moment_of l.fn.machine) (cells.writes l.at (drop l.i l.values)) (moment_of l.machine);
}
