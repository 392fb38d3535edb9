use Rattle.std.proofs.Common.{◌≡◌, [], subst, sym}
use Rattle.reference_oracle.proofs.PartsPut.{one_empty}
use Rattle.reference_oracle.proofs.parts.empty_lists.Goals as goal
use Rattle.reference_oracle.specs.PartsKept.{parts_at}

pub each-preserved : goal.each-preserved
each-preserved c whole =
    subst (λ l. parts_at l whole ≡ []) (sym c.in_ok-push.ensures.items)
    (one_empty c.each.lists.items _ c.new.ensures.items c.each.invariant whole)
