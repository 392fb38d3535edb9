use Rattle.std.proofs.Common.{◌++◌, ◌-◌, ◌≡◌}
use Rattle.cell_names.proofs.layouts.push_bounds.Given as goal
use Rattle.cell_names.specs.{Layouts.bounds_parts, Layouts.most_sections, Places.finds}

abbrev pub invariant-specs : goal.invariant-specs
invariant-specs l =
    finds (l.places ++ bounds_parts l.program (most_sections - l.counter) l.spec)
    ≡ finds (l.fn.places ++ bounds_parts l.program most_sections l.schema)
