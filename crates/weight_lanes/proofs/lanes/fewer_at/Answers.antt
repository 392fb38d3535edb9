use Rattle.std.proofs.Common.{◌+◌, ◌<◌, ◌∙◌, ◌≡◌, ℕ, arith, get_or, ltb, subst, sym, true, w32}
use Rattle.std.proofs.lemmas.Simd.{bitmask_splat}
use Rattle.weight_lanes.proofs.{FewerByLanes.flagged, FewerByLanes.passes, FewerByLanes.tells, FewerByLanes.wrapped, MaskMarksPlaces.Marks-mask_l}
use Rattle.weight_lanes.proofs.lanes.fewer_at.Goals as goal
use Rattle.weight_lanes.specs.{Lanes.MarksLanes, Places.LeavesFewer}

pub returns : goal.returns
returns c =
    let weights = c.args.weights.now in
    let askable = c.args.askable.now in
    let total = c.args.total in
    let bound = c.args.bound in
    let at = c.args.at in
    let P = λ (lane : ℕ). LeavesFewer weights askable total bound (at + lane) in
    let lanes = c.where_set.result in
    let long = c.where_set.ensures.long in
    let number : (lane : ℕ) → lane < 16
    → get_or lanes lane 0 ≡ flagged (get_or askable (at + lane) 0) (wrapped total (get_or weights (at + lane) 0)) =
    λ lane l.
    let flag = c.flags_from.ensures.each lane l in
    let left = c.lefts.ensures.each lane l in
    let weight = c.weights_from.ensures.each lane l in
    c.where_set.ensures.each lane l ∙ (λ i. flagged (flag i) (left i)) ∙ (λ i. flagged (get_or askable (at + lane) 0) (wrapped total (weight i))) in
    let fits : (lane : ℕ) → get_or weights (at + lane) 0 < 4294967296 = λ lane. omega (arith, c.type_inv.weights (at + lane)) in
    subst (MarksLanes P 16)
    (sym (bitmask_splat w32 ltb lanes 16 bound long (omega arith)))
    (Marks-mask_l P (λ x. ltb x bound) lanes 16 long
    (λ lane l h.
    let passed = passes (get_or askable (at + lane) 0) total (get_or weights (at + lane) 0) bound (omega arith) (fits lane) c.requires.at_most_total
    h.nonzero h.fewer in
    subst (λ x. ltb x bound ≡ true) (sym (number lane l)) passed)
    (λ lane l h.
    let told = tells (get_or askable (at + lane) 0) total (get_or weights (at + lane) 0) bound (omega arith) (fits lane) c.requires.at_most_total
    (subst (λ x. ltb x bound ≡ true) (number lane l) h) in
    record { inside = omega (arith, c.requires.in_weights); nonzero = told.0; fewer = told.1 }))
