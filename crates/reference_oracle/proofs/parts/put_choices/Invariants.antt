use Rattle.std.proofs.Common.{◌++◌, ◌-◌, ◌≡◌, length}
use Rattle.reference_oracle.proofs.parts.put_choices.Given as goal
use Rattle.reference_oracle.specs.Shapes.{choices_from}

abbrev pub invariant-constants : goal.invariant-constants
invariant-constants l =
    l.parts.items ++ choices_from l.program (length l.program.rows - l.step) l.at
    ≡ l.fn.parts.items ++ choices_from l.program (length l.program.rows) l.values
