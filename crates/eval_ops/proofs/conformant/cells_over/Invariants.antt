use Rattle.std.proofs.Common.{◌≡◌, ◌≤◌, drop, min}
use Rattle.core_program.specs.Conformant.{cells_over}
use Rattle.eval_ops.proofs.conformant.cells_over.Given as goal

abbrev pub invariant-extents : goal.invariant-extents
invariant-extents l = record {
  so_far : min (cells_over (drop l.extent-index l.extents) l.cells) 1048577 ≡ min (cells_over l.extents l.size) 1048577;
  bound : l.cells ≤ 1048577;
}
