use Rattle.std.proofs.Common.{◌+◌, ◌-◌, ◌≡◌}
use Rattle.core_program.specs.Blocks.{cleared}
use Rattle.eval_ops.proofs.calls.remove_cells.Given as goal

abbrev pub invariant-cells : goal.invariant-cells
invariant-cells l = cleared l.base l.cells l.fn.store ≡ cleared (l.base + l.i) (l.cells - l.i) l.store
