use Rattle.std.proofs.Common.{◌+◌, ◌-◌, ◌<◌, ◌∙◌, ◌≡◌, None, Some, ap, arith, length, sym}
use Rattle.core_program.specs.{Conformant.dimensions_within, Conformant.extent_in, ProgramRows.type_at}
use Rattle.eval_ops.proofs.{BoundsHeld.none_of, DimensionsFound.spec_broken, DimensionsFound.spec_found, DimensionsFound.specs_ended}
use Rattle.eval_ops.proofs.dimensions.dimensions_of.Goals as goal
use Rattle.eval_ops.specs.Conformant.{and_specs, spec_parts}

pub returns-in_default : goal.returns-in_default
returns-in_default c =
    let p = c.args.program.now in
    let below : c.specs._passed < length p.rows = let n = c.rows-passed-end.ensures in let t = c.specs-test.true in omega (arith, n, t) in
    let none : spec_parts (type_at p c.specs.at) ≡ None =
    ap spec_parts (sym c.type_row.ensures) ∙ sym c.spec_parts.ensures ∙ none_of c.spec_parts.result c.in_default.not-Some in
    c.dimensions_over.ensures ∙ sym (specs_ended p (length p.rows) c.specs._passed c.specs.at c.specs.specs.items below none) ∙ c.specs.invariant

pub returns-in_default-extent_in : goal.returns-in_default-extent_in
returns-in_default-extent_in c =
    let p = c.args.program.now in
    let n = c.in-Some in
    let below : c.specs._passed < length p.rows = let n = c.rows-passed-end.ensures in let t = c.specs-test.true in omega (arith, n, t) in
    let t = c.type_row.ensures in
    let u = c.spec_parts.ensures in
    let v = n.is in
    let some : spec_parts (type_at p c.specs.at) ≡ Some (n.index, n.component, n.place) = cc in
    let none : extent_in (type_at p n.index) ≡ None =
    ap extent_in (sym c.type_row-in-specs.ensures) ∙ sym c.extent_in.ensures ∙ none_of c.extent_in.result c.in_default-extent_in.not-Some in
    sym (spec_broken p (length p.rows) c.specs._passed c.specs.at c.specs.specs.items below n.index n.component n.place some none) ∙ c.specs.invariant

pub specs-preserved : goal.specs-preserved
specs-preserved c =
    let p = c.args.program.now in
    let n = c.in-Some in
    let below : c.specs._passed < length p.rows = let n = c.rows-passed-end.ensures in let t = c.specs-test.true in omega (arith, n, t) in
    let t = c.type_row.ensures in
    let u = c.spec_parts.ensures in
    let v = n.is in
    let some : spec_parts (type_at p c.specs.at) ≡ Some (n.index, n.component, n.place) = cc in
    let within : extent_in (type_at p n.index) ≡ Some c.in-Some-extent_in.within =
    ap extent_in (sym c.type_row-in-specs.ensures) ∙ sym c.extent_in.ensures ∙ c.in-Some-extent_in.is in
    ap (λ l. and_specs l (dimensions_within (length p.rows - (c.specs._passed + 1)) p n.component)) c.in_ok-push.ensures.items
    ∙ sym (spec_found p (length p.rows) c.specs._passed c.specs.at c.specs.specs.items below n.index n.component n.place c.in-Some-extent_in.within some within)
    ∙ c.specs.invariant
