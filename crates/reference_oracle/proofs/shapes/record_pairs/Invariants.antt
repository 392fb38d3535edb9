use Rattle.std.proofs.Common.{◌≡◌, drop}
use Rattle.reference_oracle.proofs.RecordsCompared.{in_front_of}
use Rattle.reference_oracle.proofs.shapes.record_pairs.Given as goal
use Rattle.reference_oracle.specs.Shapes.{programs, record_pairs}

abbrev pub invariant-each : goal.invariant-each
invariant-each l =
    let ps = programs l.subject l.reference in
    in_front_of l.pairs.items (record_pairs ps (drop l.i l.parts) (drop l.i l.others)) ≡ record_pairs ps l.parts l.others
