use Rattle.std.proofs.Common.{◌≡◌, drop}
use Rattle.check_steps.specs.Steps.{each, run_step}
use Rattle.denoter_checker.proofs.parts.check_more_types.Given as goal
use Rattle.denoter_checker.specs.Parts.{next_type_definition}

abbrev pub invariant-parts : goal.invariant-parts
invariant-parts l =
    run_step (each (next_type_definition l.scope) tt (drop l.part-index l.parts)) l.work ≡ run_step (each (next_type_definition l.scope) tt l.parts) l.fn.work
