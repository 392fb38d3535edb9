use Rattle.std.proofs.Common.{◌++◌, ◌≡◌}
use Rattle.cell_names.proofs.layouts.push_own.Given as goal
use Rattle.cell_names.specs.{Layouts.own_between, Places.finds}

abbrev pub invariant-tokens : goal.invariant-tokens
invariant-tokens l =
    finds (l.places ++ own_between l.program l.level l.token l.to) ≡ finds (l.fn.places ++ own_between l.program l.level l.from l.to)
