use Rattle.std.proofs.Common.{◌≡◌, drop}
use Rattle.check_steps.specs.Steps.{each, run_step}
use Rattle.denoter_checker.proofs.variants.check_more_choices.Given as goal
use Rattle.denoter_checker.specs.Variants.{next_choice}

abbrev pub invariant-constants : goal.invariant-constants
invariant-constants l =
    run_step (each (next_choice l.choosing l.chosen) l.end (drop l.constant-index l.constants)) l.work
    ≡ run_step (each (next_choice l.choosing l.chosen) l.last l.constants) l.fn.work
