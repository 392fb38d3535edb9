use Rattle.std.proofs.Common.{◌≡◌, drop}
use Rattle.check_steps.specs.Steps.{each, run_step}
use Rattle.denoter_checker.proofs.parts.define_more_types.Given as goal
use Rattle.denoter_checker.specs.Parts.{define_next_type}

abbrev pub invariant-parts : goal.invariant-parts
invariant-parts l =
    run_step (each (define_next_type l.region) tt (drop l.part-index l.parts)) l.work ≡ run_step (each (define_next_type l.region) tt l.parts) l.fn.work
