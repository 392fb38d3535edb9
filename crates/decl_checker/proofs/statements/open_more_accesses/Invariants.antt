use Rattle.std.proofs.Common.{◌≡◌, drop}
use Rattle.check_steps.specs.Steps.{each, run_step}
use Rattle.decl_checker.proofs.statements.open_more_accesses.Given as goal
use Rattle.decl_checker.specs.Statements.{inside_next}

abbrev pub invariant-others : goal.invariant-others
invariant-others l = run_step (each inside_next l.inner (drop l.other-index l.others)) l.work ≡ run_step (each inside_next l.fn.frame l.others) l.fn.work
