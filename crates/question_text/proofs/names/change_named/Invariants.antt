use Rattle.std.proofs.Common.{◌≡◌, drop}
use Rattle.question_text.proofs.names.change_named.Given as goal
use Rattle.question_text.specs.{Cards.recorded_in, CellNames.change_named}

abbrev pub invariant-loop-i : goal.invariant-loop-i
invariant-loop-i l =
    change_named (recorded_in l.from) l.number l.name (drop l.i l.changes) ≡ change_named (recorded_in l.from) l.number l.name l.changes
