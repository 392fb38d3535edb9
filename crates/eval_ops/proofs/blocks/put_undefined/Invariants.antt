use Rattle.std.proofs.Common.{◌+◌, ◌-◌, ◌≡◌, replicate}
use Rattle.cell_value.specs.declared.values.Value.TheVariants.{Undefined}
use Rattle.core_program.specs.Blocks.{filled}
use Rattle.eval_ops.proofs.blocks.put_undefined.Given as goal

abbrev pub invariant-cells : goal.invariant-cells
invariant-cells l = filled l.first (replicate l.cells Undefined) l.fn.store ≡ filled (l.first + l.i) (replicate (l.cells - l.i) Undefined) l.store
