use Rattle.std.proofs.Common.{◌≡◌, drop}
use Rattle.check_steps.specs.Steps.{each, run_step}
use Rattle.denoter_checker.proofs.headings.+signatures.Given as goal
use Rattle.denoter_checker.specs.Headings.{next_formal_place}

abbrev pub invariant-check_other_formals-others : goal.invariant-check_other_formals-others
invariant-check_other_formals-others l =
    run_step (each (next_formal_place l.frame) l.next (drop l.other-index l.others)) l.work
    ≡ run_step (each (next_formal_place l.frame) l.fn.at l.others) l.fn.work
