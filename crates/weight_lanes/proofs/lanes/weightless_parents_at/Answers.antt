use Rattle.std.proofs.Common.{◌+◌, ◌≡◌, ◌≢◌, arith, get_or}
use Rattle.weight_lanes.proofs.MaskMarksPlaces.{Marks-both, Marks-no_first, Marks-same}
use Rattle.weight_lanes.proofs.lanes.weightless_parents_at.Goals as goal
use Rattle.weight_lanes.specs.Places.{IsWeightlessParent}

pub returns-then-weightless-eq0 : goal.returns-then-weightless-eq0
returns-then-weightless-eq0 c =
    let at = c.args.at in
    Marks-no_first (λ lane. get_or c.args.weights.now (at + lane) 0 ≡ 0) (λ lane. IsWeightlessParent c.args.weights.now c.args.last.now (at + lane)) 16
    c.equal_at-weightless.result (λ lane h. h.weightless) c.equal_at-weightless.ensures c.if-weightless-eq0.true

pub returns : goal.returns
returns c =
    let at = c.args.at in
    Marks-same (λ lane. (get_or c.args.weights.now (at + lane) 0 ≡ 0) × (get_or c.args.last.now (at + lane) 0 ≢ at + lane))
    (λ lane. IsWeightlessParent c.args.weights.now c.args.last.now (at + lane)) 16 _
    (λ lane l h. record { inside = omega (arith, c.requires.in_weights); weightless = h.0; parent = h.1 })
    (λ lane l h. (h.weightless, h.parent))
    (Marks-both _ _ 16 _ _ c.equal_at-weightless.ensures c.parents_at.ensures)
