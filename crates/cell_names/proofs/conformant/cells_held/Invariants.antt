use Rattle.std.proofs.Common.{◌-◌, ◌≡◌}
use Rattle.cell_names.proofs.conformant.cells_held.Given as goal
use Rattle.cell_names.specs.Conformant.{arguments_of, cells_held, cells_within, most_specs}

abbrev pub invariant-specs : goal.invariant-specs
invariant-specs l =
    cells_within (most_specs - l.counter) l.program (arguments_of l.calls.calls) l.call l.many l.at
    ≡ cells_held l.program (arguments_of l.calls.calls) l.call l.of
