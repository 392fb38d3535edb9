use Rattle.std.proofs.Common.{refl}
use Rattle.check_steps.proofs.HomeLists.{homes-none}
use Rattle.check_steps.proofs.scopes.Scopes.new.Goals as goal
use Rattle.check_steps.specs.Regions.{RegionRows}

pub invariant_of-result : goal.invariant_of-result
invariant_of-result c =
    rw c.new.ensures.items
    (homes-none (λ (r : RegionRows). r.names) c.new-3.result refl, homes-none (λ (r : RegionRows). r.labels) c.new-4.result refl)
