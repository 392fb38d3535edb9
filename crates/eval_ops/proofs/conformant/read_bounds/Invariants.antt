use Rattle.std.proofs.Common.{[], drop}
use Rattle.core_program.specs.Conformant.{bound_cells, read_each}
use Rattle.eval_ops.proofs.ActionsCompose.{CameTo}
use Rattle.eval_ops.proofs.conformant.read_bounds.Given as goal
use Rattle.eval_ops.specs.Machines.{IsReady, moment_of}

abbrev pub invariant-specs : goal.invariant-specs
invariant-specs l = record {
  ready : IsReady l.machine;
  came : CameTo (read_each [] (bound_cells l.frame l.specs)) (moment_of l.fn.machine)
      (read_each l.values (bound_cells l.frame (drop l.spec-index l.specs))) (moment_of l.machine);
}
