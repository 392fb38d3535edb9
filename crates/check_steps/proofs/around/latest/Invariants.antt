use Rattle.std.proofs.Common.{◌≡◌, take}
use Rattle.check_steps.proofs.around.latest.Given as goal
use Rattle.check_steps.specs.Around.{latest}

abbrev pub invariant-regions : goal.invariant-regions
invariant-regions l = l.best ≡ latest l.kept (take l.i l.regions)
