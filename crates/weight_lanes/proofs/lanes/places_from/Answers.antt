use Rattle.std.proofs.Common.{◌%◌, ◌+◌, ◌<◌, ◌≡◌, ℕ, List, arith, get_or, refl, replicate}
use Rattle.std.{proofs.lemmas.List.FromFn.get_or-range_with_len, proofs.lemmas.Simd.get_or-replicate, specs.List.range_with_len}
use Rattle.weight_lanes.proofs.LanesOfOperations.{HasLanes-along, HasLanes-zip2}
use Rattle.weight_lanes.proofs.lanes.places_from.Goals as goal

pub returns : goal.returns
returns c =
    let at = c.args.at in
    let first : List ℕ = range_with_len 0 16 in
    HasLanes-along (λ lane. (get_or first lane 0 + get_or (replicate 16 at) lane 0) % 4294967296) (λ lane. at + lane) _
    (λ lane l.
    let place : get_or first lane 0 ≡ 0 + lane = get_or-range_with_len 0 16 lane 0 l in
    let all : get_or (replicate 16 at) lane 0 ≡ at = get_or-replicate 16 lane at 0 l in
    omega (arith, c.requires))
    (HasLanes-zip2 (λ x y. (x + y) % 4294967296) first (replicate 16 at) refl refl)
