use Rattle.std.proofs.Common.{◌≡◌, drop}
use Rattle.check_steps.specs.Steps.{each, run_step}
use Rattle.kind_checker.proofs.constants.define_more_constants.Given as goal
use Rattle.kind_checker.specs.Constants.{define_constant}

abbrev pub invariant-parts : goal.invariant-parts
invariant-parts l =
    run_step (each (define_constant l.region) tt (drop l.part-index l.parts)) l.work ≡ run_step (each (define_constant l.region) tt l.parts) l.fn.work
