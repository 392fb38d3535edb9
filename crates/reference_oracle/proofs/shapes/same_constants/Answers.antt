use Rattle.std.proofs.Common.{◌+◌, ◌<◌, ◌∙◌, ◌≡◌, ℕ, Bool, arith, sym, true}
use Rattle.reference_oracle.proofs.RecordsCompared.{all_more}
use Rattle.reference_oracle.proofs.shapes.same_constants.Goals as goal
use Rattle.reference_oracle.specs.Shapes.{constants_agree, names_agree, programs}

pub constants-preserved : goal.constants-preserved
constants-preserved c =
    let ps = programs c.args.subject.now c.args.reference.now in
    let agree : ℕ → Bool = constants_agree ps c.args.a c.args.b in
    let k = c.constants.ordinal in
    let within : k < c.args.last + 1 = let e = c.constants-test.true in omega (arith, e) in
    let holds : agree k ≡ true =
    (λ i. names_agree ps (sym c.constant_token.ensures i) (sym c.constant_token-in-constants.ensures i))
    ∙ sym c.names_agree.ensures
    ∙ c.if-not-names_agree.false in
    sym (all_more agree k (c.args.last + 1) within holds) ∙ c.constants.invariant
