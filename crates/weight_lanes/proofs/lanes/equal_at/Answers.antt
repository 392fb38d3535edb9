use Rattle.std.proofs.Common.{◌+◌, ◌∙◌, ◌≡◌, arith, eq-eqb, eqb, get_or, subst, sym, w32}
use Rattle.std.proofs.lemmas.{Bool.eqb-true, Simd.bitmask_splat, Simd.get_or-chunk, Simd.length-chunk}
use Rattle.std.specs.Simd.Lanes.{chunk}
use Rattle.weight_lanes.proofs.MaskMarksPlaces.{Marks-mask_l}
use Rattle.weight_lanes.proofs.lanes.equal_at.Goals as goal
use Rattle.weight_lanes.specs.Lanes.{MarksLanes}

pub returns : goal.returns
returns c =
    let column = c.args.column.now in
    let at = c.args.at in
    let value = c.args.value in
    let lanes = chunk at 16 column in
    let long = length-chunk at 16 column c.requires in
    subst (MarksLanes (λ lane. get_or column (at + lane) 0 ≡ value) 16)
    (sym (bitmask_splat w32 eqb lanes 16 value long (omega arith)))
    (Marks-mask_l (λ lane. get_or column (at + lane) 0 ≡ value) (λ x. eqb x value) lanes 16 long
    (λ lane l h. eq-eqb (get_or lanes lane 0) value (get_or-chunk at 16 column lane 0 l ∙ h))
    (λ lane l h. sym (get_or-chunk at 16 column lane 0 l) ∙ eqb-true (get_or lanes lane 0) value h))
