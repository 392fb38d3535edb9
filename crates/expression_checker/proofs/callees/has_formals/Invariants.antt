use Rattle.std.proofs.Common.{◌-◌, ◌≡◌, length}
use Rattle.expression_checker.proofs.callees.has_formals.Given as goal
use Rattle.expression_checker.specs.Callees.{has_formals, takes_from}

abbrev pub invariant-sections : goal.invariant-sections
invariant-sections l =
    takes_from (length l.tables.words - l._passed) l.tables l.at l.left ≡ has_formals l.tables l.sections l.count
