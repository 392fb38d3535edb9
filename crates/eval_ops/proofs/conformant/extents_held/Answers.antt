use Rattle.std.proofs.Common.{◌+◌, ◌-◌, ◌<◌, ◌∙◌, ap, arith, drop, get_or, length, pos, sym}
use Rattle.std.proofs.lemmas.Option.{slice_get-get_or}
use Rattle.core_program.specs.{Conformant.extents_held, Conformant.or_undefined, declared.components.HeldSpec.HeldSpec}
use Rattle.eval_ops.proofs.BoundsHeld.{and_extents, values_broken, values_held, values_short}
use Rattle.eval_ops.proofs.conformant.extents_held.Goals as goal

pub returns-then-len-at-lt2 : goal.returns-then-len-at-lt2
returns-then-len-at-lt2 c =
    let i = c.specs.spec-index in
    let d : HeldSpec = record { within = record { least = pos 0; greatest = pos 0 }; place = 0 } in
    let s = get_or c.args.specs.now i d in
    let spec = slice_get-get_or c.args.specs.now i d c.specs-test.true in
    let few : length c.args.values.now - c.specs.at < 2 = let k = c.len.ensures in let h = c.if-len-at-lt2.true in omega (arith, k, h) in
    ap or_undefined (sym c.specs.invariant.so_far ∙ values_short c.args.specs.now c.args.values.now i c.specs.at c.specs.extents.items s spec few)

pub returns-in_default : goal.returns-in_default
returns-in_default c =
    let i = c.specs.spec-index in
    let d : HeldSpec = record { within = record { least = pos 0; greatest = pos 0 }; place = 0 } in
    let s = get_or c.args.specs.now i d in
    let spec = slice_get-get_or c.args.specs.now i d c.specs-test.true in
    ap or_undefined (sym c.specs.invariant.so_far ∙ values_broken c.args.specs.now c.args.values.now i c.specs.at c.specs.extents.items s spec
    c.at.result c.at-in-specs.result c.at.ensures.found c.at-in-specs.ensures.found (sym c.extent_held.ensures ∙ c.in_default.is))

pub specs-preserved : goal.specs-preserved
specs-preserved c =
    let i = c.specs.spec-index in
    let d : HeldSpec = record { within = record { least = pos 0; greatest = pos 0 }; place = 0 } in
    let s = get_or c.args.specs.now i d in
    let spec = slice_get-get_or c.args.specs.now i d c.specs-test.true in
    let k = c.len.ensures in
    let h = c.if-len-at-lt2.false in
    record {
      so_far = ap (λ l. and_extents l (extents_held (drop (i + 1) c.args.specs.now) (drop (c.specs.at + 2) c.args.values.now))) c.in_ok-push.ensures.items
          ∙ sym (values_held c.args.specs.now c.args.values.now i c.specs.at c.specs.extents.items s spec c.at.result c.at-in-specs.result c.at.ensures.found
          c.at-in-specs.ensures.found c.in-Some.extent (sym c.extent_held.ensures ∙ c.in-Some.is)) ∙ c.specs.invariant.so_far;
      inside = omega (arith, k, h);
    }
