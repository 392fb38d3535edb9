use Rattle.std.proofs.Common.{◌≡◌, drop}
use Rattle.check_steps.specs.Steps.{each, run_step}
use Rattle.denoter_checker.proofs.parts.check_more_variables.Given as goal
use Rattle.denoter_checker.specs.Parts.{next_variable_declaration}

abbrev pub invariant-parts : goal.invariant-parts
invariant-parts l =
    run_step (each (next_variable_declaration l.frame) l.next (drop l.part-index l.parts)) l.work
    ≡ run_step (each (next_variable_declaration l.frame) l.fn.at l.parts) l.fn.work
