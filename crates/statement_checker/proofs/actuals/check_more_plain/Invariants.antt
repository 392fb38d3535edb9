use Rattle.std.proofs.Common.{◌≡◌, drop}
use Rattle.check_steps.specs.Steps.{each, run_step}
use Rattle.statement_checker.proofs.actuals.check_more_plain.Given as goal
use Rattle.statement_checker.specs.Actuals.{next_plain}

abbrev pub invariant-others : goal.invariant-others
invariant-others l = run_step (each (next_plain l.frame) tt (drop l.other-index l.others)) l.work ≡ run_step (each (next_plain l.frame) tt l.others) l.fn.work
