use Rattle.std.proofs.Common.{◌≡◌, drop}
use Rattle.check_steps.specs.Steps.{each, run_step}
use Rattle.denoter_checker.proofs.schemas.check_other_specs.Given as goal
use Rattle.denoter_checker.specs.Schemas.{next_spec}

abbrev pub invariant-others : goal.invariant-others
invariant-others l =
    run_step (each (next_spec l.frame l.level) l.last (drop l.other-index l.others)) l.work
    ≡ run_step (each (next_spec l.frame l.level) l.fn.first l.others) l.fn.work
