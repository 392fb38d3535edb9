use Rattle.std.proofs.Common.{◌-◌, ◌≡◌}
use Rattle.cell_names.proofs.conformant.is_sought.Given as goal
use Rattle.cell_names.specs.Conformant.{arguments_of, is_sought, most_specs}

abbrev pub invariant-specs : goal.invariant-specs
invariant-specs l =
    is_sought (most_specs - l.counter) l.program (arguments_of l.calls.calls) l.wanted l.found
    ≡ is_sought most_specs l.program (arguments_of l.calls.calls) l.fn.wanted l.fn.found
