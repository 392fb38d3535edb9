use Rattle.std.proofs.Common.{◌-◌, ◌≡◌, length}
use Rattle.core_program.proofs.search.search.Given as goal
use Rattle.core_program.specs.Lists.{sought_along}

abbrev pub invariant-items : goal.invariant-items
invariant-items l = sought_along l.tables l.kind (length l.tables.rows) l.fn.first l.wanted
    ≡ sought_along l.tables l.kind (length l.tables.rows) l.at l.wanted

abbrev pub decreases-items : goal.decreases-items
decreases-items l = 4294967296 - l.at
