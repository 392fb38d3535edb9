use Rattle.std.proofs.Common.{◌≡◌, drop}
use Rattle.check_steps.specs.Steps.{each, run_step}
use Rattle.kind_checker.proofs.constants.check_more_constants.Given as goal
use Rattle.kind_checker.specs.Constants.{constant_part}

abbrev pub invariant-parts : goal.invariant-parts
invariant-parts l =
    run_step (each (constant_part l.frame) tt (drop l.part-index l.parts)) l.work ≡ run_step (each (constant_part l.frame) tt l.parts) l.fn.work
