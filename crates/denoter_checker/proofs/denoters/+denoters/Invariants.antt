use Rattle.std.proofs.Common.{◌≡◌, drop}
use Rattle.check_steps.specs.Steps.{each, run_step}
use Rattle.denoter_checker.proofs.denoters.+denoters.Given as goal
use Rattle.denoter_checker.specs.Denoters.{next_arm, next_index, next_section}

abbrev pub invariant-check_other_indexes-others : goal.invariant-check_other_indexes-others
invariant-check_other_indexes-others l =
    run_step (each (next_index l.scope l.word) tt (drop l.other-index l.others)) l.work ≡ run_step (each (next_index l.scope l.word) tt l.others) l.fn.work

abbrev pub invariant-check_sections-sections : goal.invariant-check_sections-sections
invariant-check_sections-sections l =
    run_step (each (next_section l.scope l.holder) l.next (drop l.section-index l.sections)) l.work
    ≡ run_step (each (next_section l.scope l.holder) l.fn.offset l.sections) l.fn.work

abbrev pub invariant-check_arms-arms : goal.invariant-check_arms-arms
invariant-check_arms-arms l =
    run_step (each (next_arm l.scope) l.next (drop l.arm-index l.arms)) l.work ≡ run_step (each (next_arm l.scope) l.fn.offset l.arms) l.fn.work
