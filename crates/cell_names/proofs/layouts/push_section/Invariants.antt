use Rattle.std.proofs.Common.{◌++◌, ◌-◌, ◌≡◌}
use Rattle.cell_names.proofs.layouts.push_section.Given as goal
use Rattle.cell_names.specs.{Layouts.section_parts, Places.finds}

abbrev pub invariant-names : goal.invariant-names
invariant-names l =
    finds (l.places ++ section_parts l.program (l.count - l.counter) l.token)
    ≡ finds (l.fn.places ++ section_parts l.program l.count l.first)
