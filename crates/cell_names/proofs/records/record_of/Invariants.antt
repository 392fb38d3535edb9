use Rattle.std.proofs.Common.{◌-◌, ◌≡◌}
use Rattle.cell_names.proofs.records.record_of.Given as goal
use Rattle.cell_names.specs.Records.{holding_record, most_nesting}

abbrev pub invariant-holders : goal.invariant-holders
invariant-holders l = holding_record l.program (most_nesting - l.counter) l.at ≡ holding_record l.program most_nesting l.holder
