use Rattle.std.proofs.Common.{◌≡◌, drop}
use Rattle.check_steps.specs.Steps.{each, run_step}
use Rattle.denoter_checker.proofs.schemas.define_other_specs.Given as goal
use Rattle.denoter_checker.specs.Schemas.{define_next_spec}

abbrev pub invariant-others : goal.invariant-others
invariant-others l =
    run_step (each (define_next_spec l.region) tt (drop l.other-index l.others)) l.work ≡ run_step (each (define_next_spec l.region) tt l.others) l.fn.work
