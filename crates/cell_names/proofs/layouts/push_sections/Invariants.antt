use Rattle.std.proofs.Common.{◌++◌, ◌-◌, ◌≡◌}
use Rattle.cell_names.proofs.layouts.push_sections.Given as goal
use Rattle.cell_names.specs.{Layouts.most_sections, Layouts.sections_parts, Places.finds}

abbrev pub invariant-sections : goal.invariant-sections
invariant-sections l =
    finds (l.places ++ sections_parts l.program (most_sections - l.counter) l.slot)
    ≡ finds (l.fn.places ++ sections_parts l.program most_sections l.sections)
