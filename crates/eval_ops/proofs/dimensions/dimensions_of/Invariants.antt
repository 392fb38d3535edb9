use Rattle.std.proofs.Common.{◌-◌, ◌≡◌, length}
use Rattle.core_program.specs.Conformant.{dimensions_of, dimensions_within}
use Rattle.eval_ops.proofs.dimensions.dimensions_of.Given as goal
use Rattle.eval_ops.specs.Conformant.{and_specs}

abbrev pub invariant-specs : goal.invariant-specs
invariant-specs l =
    and_specs l.specs.items (dimensions_within (length l.program.rows - l._passed) l.program l.at) ≡ dimensions_of l.program l.of
