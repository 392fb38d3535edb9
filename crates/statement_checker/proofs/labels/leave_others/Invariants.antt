use Rattle.std.proofs.Common.{◌≡◌, drop}
use Rattle.check_steps.specs.Steps.{each, run_step}
use Rattle.statement_checker.proofs.labels.leave_others.Given as goal
use Rattle.statement_checker.specs.Labels.{leave, on_next}

abbrev pub invariant-others : goal.invariant-others
invariant-others l = run_step (each (on_next (leave l.frame)) tt (drop l.other-index l.others)) l.work
    ≡ run_step (each (on_next (leave l.frame)) tt l.others) l.fn.work
