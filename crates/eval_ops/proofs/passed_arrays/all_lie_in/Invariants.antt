use Rattle.std.proofs.Common.{◌≡◌, drop}
use Rattle.core_program.specs.Conformant.{all_lie_in}
use Rattle.eval_ops.proofs.passed_arrays.all_lie_in.Given as goal

abbrev pub invariant-extents : goal.invariant-extents
invariant-extents l = all_lie_in (drop l.place l.extents) (drop l.place l.schema) ≡ all_lie_in l.extents l.schema
