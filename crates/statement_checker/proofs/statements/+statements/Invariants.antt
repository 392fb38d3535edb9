use Rattle.std.proofs.Common.{◌≡◌, drop}
use Rattle.check_steps.specs.Steps.{each, run_step}
use Rattle.statement_checker.proofs.statements.+statements.Given as goal
use Rattle.statement_checker.specs.Statements.{next_branch, next_statement}

abbrev pub invariant-check_more_statements-others : goal.invariant-check_more_statements-others
invariant-check_more_statements-others l =
    run_step (each (next_statement l.frame) l.last (drop l.other-index l.others)) l.work
    ≡ run_step (each (next_statement l.frame) l.fn.first l.others) l.fn.work

abbrev pub invariant-check_more_branches-others : goal.invariant-check_more_branches-others
invariant-check_more_branches-others l =
    run_step (each (next_branch l.frame l.choosing) l.last (drop l.other-index l.others)) l.work
    ≡ run_step (each (next_branch l.frame l.choosing) l.fn.first l.others) l.fn.work
