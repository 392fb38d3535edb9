use Rattle.std.proofs.Common.{◌≡◌, drop}
use Rattle.check_steps.specs.Steps.{each, run_step}
use Rattle.statement_checker.proofs.parts.check_more_passed.Given as goal
use Rattle.statement_checker.specs.Parts.{next_passed}

abbrev pub invariant-others : goal.invariant-others
invariant-others l =
    run_step (each (next_passed l.frame) l.passing (drop l.other-index l.others)) l.work
    ≡ run_step (each (next_passed l.frame) l.fn.first l.others) l.fn.work
