use Rattle.std.proofs.Common.{◌+◌, ◌∙◌, ◌≢◌, arith, get_or, subst, sym}
use Rattle.std.{proofs.lemmas.Simd.get_or-chunk, proofs.lemmas.Simd.length-chunk, specs.Simd.Lanes.chunk}
use Rattle.weight_lanes.proofs.MaskMarksPlaces.{Marks-zip2, bitmask_compared, differs, differs-true}
use Rattle.weight_lanes.proofs.lanes.parents_at.Goals as goal
use Rattle.weight_lanes.specs.Lanes.{MarksLanes}

pub returns : goal.returns
returns c =
    let last = c.args.last.now in
    let at = c.args.at in
    let lanes = chunk at 16 last in
    let places = c.places_from.result in
    let long = length-chunk at 16 last c.requires.in_last in
    let has = c.places_from.ensures in
    subst (MarksLanes (λ lane. get_or last (at + lane) 0 ≢ at + lane) 16)
    (sym (bitmask_compared differs lanes places 16 long has.long (omega arith)))
    (Marks-zip2 (λ lane. get_or last (at + lane) 0 ≢ at + lane) differs lanes places 16 long has.long
    (λ lane l h. (differs-true (get_or lanes lane 0) (get_or places lane 0)).1 (λ e. h (sym (get_or-chunk at 16 last lane 0 l) ∙ e ∙ has.each lane l)))
    (λ lane l h e. (differs-true (get_or lanes lane 0) (get_or places lane 0)).0 h (get_or-chunk at 16 last lane 0 l ∙ e ∙ sym (has.each lane l))))
