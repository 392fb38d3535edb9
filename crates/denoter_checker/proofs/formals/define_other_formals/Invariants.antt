use Rattle.std.proofs.Common.{◌≡◌, drop}
use Rattle.check_steps.specs.Steps.{run_step, each}
use Rattle.denoter_checker.specs.Formals.{define_next_formal}
use Rattle.denoter_checker.proofs.formals.define_other_formals.Given as goal

abbrev pub invariant-others : goal.invariant-others
invariant-others l =
    run_step (each (define_next_formal l.region) tt (drop l.other-index l.others)) l.work ≡ run_step (each (define_next_formal l.region) tt l.others) l.fn.work
