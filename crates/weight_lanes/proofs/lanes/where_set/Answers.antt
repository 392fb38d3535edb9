use Rattle.std.proofs.Common.{cond, eqb, get_or, refl, replicate}
use Rattle.std.proofs.lemmas.Simd.{get_or-replicate}
use Rattle.weight_lanes.proofs.LanesOfOperations.{HasLanes-along, HasLanes-select}
use Rattle.weight_lanes.proofs.lanes.where_set.Goals as goal

pub returns : goal.returns
returns c =
    let flags = c.args.flags in
    let numbers = c.args.numbers in
    HasLanes-along (λ lane. cond (eqb (get_or flags lane 0) (get_or (replicate 16 0) lane 0)) (get_or (replicate 16 4294967295) lane 0) (get_or numbers lane 0))
    (λ lane. cond (eqb (get_or flags lane 0) 0) 4294967295 (get_or numbers lane 0)) _
    (λ lane l i. cond (eqb (get_or flags lane 0) (get_or-replicate 16 lane 0 0 l i)) (get_or-replicate 16 lane 4294967295 0 l i) (get_or numbers lane 0))
    (HasLanes-select eqb flags (replicate 16 0) (replicate 16 4294967295) numbers c.fits-flags.0 refl refl c.fits-numbers.0)
