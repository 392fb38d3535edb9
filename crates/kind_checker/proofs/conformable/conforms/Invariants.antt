use Rattle.std.proofs.Common.{◌-◌, ◌≡◌, length}
use Rattle.kind_checker.proofs.conformable.conforms.Given as goal
use Rattle.kind_checker.specs.Conformable.{conforms}

abbrev pub invariant-specs : goal.invariant-specs
invariant-specs l = conforms (length l.tables.words - l._passed) l.tables l.at l.wanted ≡ conforms (length l.tables.words) l.tables l.kind l.schema
