use Rattle.std.proofs.Common.{◌+◌, ◌-◌, ◌≡◌}
use Rattle.whole_tables.proofs.scopes.are_scoped.Given as goal
use Rattle.whole_tables.specs.Scopes.{scoped_records}

abbrev pub invariant-records : goal.invariant-records
invariant-records l =
    scoped_records l.program l.column (l.fn.rows - l.passed) (l.fn.around + l.passed) l.at l.body
    ≡ scoped_records l.program l.column l.fn.rows l.fn.around l.fn.records l.body
