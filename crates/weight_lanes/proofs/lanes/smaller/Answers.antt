use Rattle.std.proofs.Common.{cond, get_or, ltb, min}
use Rattle.weight_lanes.proofs.LanesOfOperations.{HasLanes-along, HasLanes-select, smaller_is_min}
use Rattle.weight_lanes.proofs.lanes.smaller.Goals as goal

pub returns : goal.returns
returns c =
    let a = c.args.a in
    let b = c.args.b in
    HasLanes-along (λ lane. cond (ltb (get_or a lane 0) (get_or b lane 0)) (get_or a lane 0) (get_or b lane 0))
    (λ lane. min (get_or a lane 0) (get_or b lane 0)) _
    (λ lane l. smaller_is_min (get_or a lane 0) (get_or b lane 0))
    (HasLanes-select ltb a b a b c.fits-a.0 c.fits-b.0 c.fits-a.0 c.fits-b.0)
