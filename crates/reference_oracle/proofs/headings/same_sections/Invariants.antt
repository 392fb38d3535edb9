use Rattle.std.proofs.Common.{◌-◌, ◌≡◌, length}
use Rattle.reference_oracle.proofs.headings.same_sections.Given as goal
use Rattle.reference_oracle.specs.{Fitting.same_sections, PairsKept.ArePairs, Shapes.programs}

abbrev pub invariant-sections : goal.invariant-sections
invariant-sections l =
    let ps = programs l.subject l.reference in
    let rows = length l.subject.rows in
    record {
      sections : same_sections ps (rows - l.step) l.a l.b ≡ same_sections ps rows l.first l.other;
      pairs : ArePairs ps l.pairs;
    }
