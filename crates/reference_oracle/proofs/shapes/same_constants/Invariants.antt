use Rattle.std.{proofs.Common.◌+◌, proofs.Common.◌-◌, proofs.Common.◌≡◌, specs.List.list_all, specs.List.range_with_len}
use Rattle.reference_oracle.proofs.shapes.same_constants.Given as goal
use Rattle.reference_oracle.specs.Shapes.{constants_agree, programs}

abbrev pub invariant-constants : goal.invariant-constants
invariant-constants l =
    let agree = constants_agree (programs l.subject l.reference) l.a l.b in
    list_all agree (range_with_len l.ordinal (l.last + 1 - l.ordinal)) ≡ list_all agree (range_with_len 0 (l.last + 1))
