use Rattle.std.proofs.Common.{◌≡◌, drop}
use Rattle.check_steps.specs.Steps.{each, run_step}
use Rattle.denoter_checker.proofs.defines.+define.Given as goal
use Rattle.denoter_checker.specs.Defines.{define_next_arm, define_next_section, define_other}

abbrev pub invariant-define_others-others : goal.invariant-define_others-others
invariant-define_others-others l =
    run_step (each (define_other l.region) tt (drop l.other-index l.others)) l.work ≡ run_step (each (define_other l.region) tt l.others) l.fn.work

abbrev pub invariant-define_sections-sections : goal.invariant-define_sections-sections
invariant-define_sections-sections l =
    run_step (each (define_next_section l.wanted l.region) tt (drop l.section-index l.sections)) l.work
    ≡ run_step (each (define_next_section l.wanted l.region) tt l.sections) l.fn.work

abbrev pub invariant-define_arms-arms : goal.invariant-define_arms-arms
invariant-define_arms-arms l =
    run_step (each (define_next_arm l.wanted l.region) tt (drop l.arm-index l.arms)) l.work
    ≡ run_step (each (define_next_arm l.wanted l.region) tt l.arms) l.fn.work
