use Rattle.std.proofs.Common.{◌≡◌, drop}
use Rattle.check_steps.specs.Steps.{each, run_step}
use Rattle.denoter_checker.proofs.variants.use_more_constants.Given as goal
use Rattle.denoter_checker.specs.Variants.{next_constant}

abbrev pub invariant-others : goal.invariant-others
invariant-others l = run_step (each (next_constant l.frame) tt (drop l.other-index l.others)) l.work
    ≡ run_step (each (next_constant l.frame) tt l.others) l.fn.work
