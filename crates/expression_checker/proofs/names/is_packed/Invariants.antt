use Rattle.std.proofs.Common.{◌-◌, ◌≡◌, length}
use Rattle.expression_checker.proofs.names.is_packed.Given as goal
use Rattle.expression_checker.specs.Names.{is_packed, is_packed_from}

abbrev pub invariant-holders : goal.invariant-holders
invariant-holders l = is_packed_from (length l.tables.words - l._passed) l.tables l.at ≡ is_packed l.tables l.holder
