use Rattle.std.proofs.Common.{◌≡◌, drop}
use Rattle.check_steps.specs.Steps.{each, run_step}
use Rattle.denoter_checker.proofs.variants.check_more_arm_choices.Given as goal
use Rattle.denoter_checker.specs.Variants.{next_arm_choices}

abbrev pub invariant-arms : goal.invariant-arms
invariant-arms l =
    run_step (each (next_arm_choices l.choosing) l.so_far (drop l.arm-index l.arms)) l.work
    ≡ run_step (each (next_arm_choices l.choosing) l.fn.listed l.arms) l.fn.work
