use Rattle.std.proofs.Common.{◌+◌, ◌∙◌, ◌≡◌, arith, eq-eqb, eqb, get_or, subst, sym, w32}
use Rattle.std.proofs.lemmas.{Bool.eqb-true, Simd.bitmask_splat}
use Rattle.weight_lanes.proofs.MaskMarksPlaces.{Marks-mask_l}
use Rattle.weight_lanes.proofs.lanes.numbered_at.Goals as goal
use Rattle.weight_lanes.specs.Lanes.{MarksLanes, lane_number}

pub returns : goal.returns
returns c =
    let number = λ (lane : _). lane_number c.args.weights.now c.args.askable.now c.args.total (c.args.at + lane) in
    let lanes = c.numbers_from.result in
    let has = c.numbers_from.ensures in
    let sought = c.args.number in
    subst (MarksLanes (λ lane. number lane ≡ sought) 16)
    (sym (bitmask_splat w32 eqb lanes 16 sought has.long (omega arith)))
    (Marks-mask_l (λ lane. number lane ≡ sought) (λ x. eqb x sought) lanes 16 has.long
    (λ lane l h. eq-eqb (get_or lanes lane 0) sought (has.each lane l ∙ h))
    (λ lane l h. sym (has.each lane l) ∙ eqb-true (get_or lanes lane 0) sought h))
