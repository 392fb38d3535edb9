use Rattle.std.proofs.Common.{◌++◌, ◌≡◌, drop}
use Rattle.core_program.specs.{Conformant.fixed_extents, ProgramRows.type_at}
use Rattle.eval_ops.proofs.dimensions.add_fixed_extents.Given as goal

abbrev pub invariant-specs : goal.invariant-specs
invariant-specs l = l.extents.items ++ fixed_extents l.program (drop l._passed l.schema) (type_at l.program l.at)
    ≡ l.fn.extents.items ++ fixed_extents l.program (drop l.from l.schema) (type_at l.program l.of)
