use Rattle.std.proofs.Common.{◌++◌, ◌+◌, ◌∙◌, ◌≡◌, [], None, Some, ap, drop, sym}
use Rattle.core_program.specs.{Conformant.extent_before, Conformant.extent_in, Conformant.fixed_extents, ProgramRows.type_at}
use Rattle.eval_ops.proofs.{BoundsHeld.none_of, DimensionsFound.extents_onward, DimensionsFound.extents_stop}
use Rattle.eval_ops.proofs.dimensions.add_fixed_extents.Goals as goal
use Rattle.eval_ops.specs.Conformant.{array_types}

pub returns-in_default : goal.returns-in_default
returns-in_default c =
    let none : array_types (type_at c.args.program.now c.specs.at) ≡ None =
    ap array_types (sym c.type_row.ensures) ∙ sym c.array_types.ensures ∙ none_of c.array_types.result c.in_default.not-Some in
    sym (extents_stop c.args.program.now c.args.schema.now c.specs._passed c.specs.at c.specs.extents.items c.specs-test.true none) ∙ c.specs.invariant

pub specs-preserved : goal.specs-preserved
specs-preserved c =
    let p = c.args.program.now in
    let i = c.specs._passed in
    let es = c.specs.extents.items in
    let t = c.type_row.ensures in
    let u = c.array_types.ensures in
    let v = c.in-Some.is in
    let some : array_types (type_at p c.specs.at) ≡ Some (c.in-Some.index, c.in-Some.component) = cc in
    ap (λ l. l ++ fixed_extents p (drop (i + 1) c.args.schema.now) (type_at p c.in-Some.component))
    (c.in_ok-add_extent.ensures ∙ ap (λ o. es ++ extent_before o []) (c.extent_in.ensures ∙ ap extent_in c.type_row-in-specs.ensures))
    ∙ sym (extents_onward p c.args.schema.now i c.specs.at c.in-Some.index c.in-Some.component es c.specs-test.true some) ∙ c.specs.invariant
