use Rattle.std.proofs.Common.{◌≡◌, ◌≤◌, drop, length}
use Rattle.core_program.specs.Conformant.{extents_held}
use Rattle.eval_ops.proofs.BoundsHeld.{and_extents}
use Rattle.eval_ops.proofs.conformant.extents_held.Given as goal

abbrev pub invariant-specs : goal.invariant-specs
invariant-specs l = record {
  so_far : and_extents l.extents.items (extents_held (drop l.spec-index l.specs) (drop l.at l.values)) ≡ extents_held l.specs l.values;
  inside : l.at ≤ length l.values;
}
