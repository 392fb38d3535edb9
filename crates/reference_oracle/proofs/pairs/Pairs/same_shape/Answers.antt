use Rattle.std.proofs.Common.{◌∙◌, ap, sym}
use Rattle.reference_oracle.proofs.pairs.Pairs.same_shape.Goals as goal
use Rattle.reference_oracle.specs.{Levels.is_within, Levels.level_at, Shapes.pair, Shapes.programs, Shapes.same_shape, Shapes.same_within}

pub returns-clause-same : goal.returns-clause-same
unfolding same_shape
returns-clause-same c =
    let q = pair c.args.a c.args.b in
    let number = c.in_ok-number.number in
    c.is_within.ensures
    ∙ ap (is_within c.rows.result) (c.level_at.ensures ∙ ap (λ l. level_at l number) c.deref.ensures.value)
    ∙ sym (c.in_ok-number.ensures.pairs.levels number q c.in_ok-number.ensures.there c.rows.result)
    ∙ ap (λ n. same_within (programs c.args.subject.now c.args.reference.now) n q) c.rows.ensures
