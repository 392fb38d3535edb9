use Rattle.std.proofs.Common.{◌++◌, ◌≡◌, drop}
use Rattle.core_program.specs.Conformant.{bound_values}
use Rattle.eval_ops.proofs.passed_arrays.bound_values.Given as goal

abbrev pub invariant-extents : goal.invariant-extents
invariant-extents l = l.values ++ bound_values (drop l.extent-index l.extents) ≡ bound_values l.extents
