use Rattle.std.proofs.Common.{◌-◌}
use Rattle.core_program.specs.Variants.{undefine_cells}
use Rattle.eval_ops.proofs.ActionsCompose.{CameTo}
use Rattle.eval_ops.proofs.variants.undefine_cells.Given as goal
use Rattle.eval_ops.specs.Machines.{IsReady, moment_of}

abbrev pub invariant-cells : goal.invariant-cells
invariant-cells l = record {
  ready : IsReady l.machine;
  came : CameTo (undefine_cells l.addr l.cells) (moment_of l.fn.machine) (undefine_cells l.at (l.cells - l.counter)) (moment_of l.machine);
}
