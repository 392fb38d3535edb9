use Rattle.std.proofs.Common.{◌≡◌, arith, length, sym}
use Rattle.reference_oracle.proofs.RecordsCompared.{parts_apart}
use Rattle.reference_oracle.proofs.shapes.record_pairs.Goals as goal
use Rattle.reference_oracle.specs.Shapes.{programs}

pub returns-then-parts-others : goal.returns-then-parts-others
returns-then-parts-others c =
    let apart : length c.args.parts.now ≡ length c.args.others.now → ⊥ = λ e. let t = c.if-parts-others.true in grind arith in
    sym (parts_apart (programs c.args.subject.now c.args.reference.now) c.args.parts.now c.args.others.now apart)
