use Rattle.std.proofs.Common.{◌+◌, ◌≡◌, drop}
use Rattle.core_program.specs.{Blocks.filled, Run.frame_cells}
use Rattle.eval_ops.proofs.calls.put_cells.Given as goal

abbrev pub invariant-cells : goal.invariant-cells
invariant-cells l =
    filled l.base (frame_cells l.routine l.args) l.fn.store ≡ filled (l.base + l.i) (drop l.i (frame_cells l.routine l.args)) l.store
