use Rattle.std.proofs.Common.{◌+◌, ◌∙◌, ◌≢◌, arith, get_or, subst, sym, w8}
use Rattle.std.{proofs.lemmas.Simd.bitmask_splat, proofs.lemmas.Simd.get_or-chunk, proofs.lemmas.Simd.length-chunk, specs.Simd.Lanes.chunk}
use Rattle.weight_lanes.proofs.MaskMarksPlaces.{Marks-mask_l, differs, differs-true}
use Rattle.weight_lanes.proofs.lanes.set_at.Goals as goal
use Rattle.weight_lanes.specs.Lanes.{MarksLanes}

pub returns : goal.returns
returns c =
    let flags = c.args.flags.now in
    let at = c.args.at in
    let lanes = chunk at 32 flags in
    let long = length-chunk at 32 flags c.requires in
    subst (MarksLanes (λ lane. get_or flags (at + lane) 0 ≢ 0) 32)
    (sym (bitmask_splat w8 differs lanes 32 0 long (omega arith)))
    (Marks-mask_l (λ lane. get_or flags (at + lane) 0 ≢ 0) (λ x. differs x 0) lanes 32 long
    (λ lane l h. (differs-true (get_or lanes lane 0) 0).1 (λ e. h (sym (get_or-chunk at 32 flags lane 0 l) ∙ e)))
    (λ lane l h e. (differs-true (get_or lanes lane 0) 0).0 h (get_or-chunk at 32 flags lane 0 l ∙ e)))
