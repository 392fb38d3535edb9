use Rattle.std.proofs.Common.{◌-◌}
use Rattle.core_program.specs.Cells as cells
use Rattle.eval_ops.proofs.ActionsCompose.{CameTo}
use Rattle.eval_ops.proofs.frames.frame_out.Given as goal
use Rattle.eval_ops.specs.Machines.{IsReady, moment_of}

abbrev pub invariant-links : goal.invariant-links
invariant-links l = record {
  ready : IsReady l.machine;
  came : CameTo (cells.frame_out l.levels l.fn.base) (moment_of l.fn.machine) (cells.frame_out (l.levels - l.counter) l.frame) (moment_of l.machine);
}
