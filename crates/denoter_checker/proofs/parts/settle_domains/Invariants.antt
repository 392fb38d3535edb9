use Rattle.std.proofs.Common.{◌-◌, ◌≡◌}
use Rattle.check_steps.specs.Steps.{run_step}
use Rattle.denoter_checker.proofs.parts.settle_domains.Given as goal
use Rattle.denoter_checker.specs.Parts.{settle_from}

abbrev pub invariant-tokens : goal.invariant-tokens
invariant-tokens l =
    run_step (settle_from (l.after - l.token) l.token) l.work ≡ run_step (settle_from (l.after - l.first) l.first) l.fn.work
