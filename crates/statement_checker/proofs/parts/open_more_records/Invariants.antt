use Rattle.std.proofs.Common.{◌≡◌, drop}
use Rattle.check_steps.specs.Steps.{each, run_step}
use Rattle.statement_checker.proofs.parts.open_more_records.Given as goal
use Rattle.statement_checker.specs.Parts.{next_record}

abbrev pub invariant-others : goal.invariant-others
invariant-others l = run_step (each next_record l.opened (drop l.other-index l.others)) l.work ≡ run_step (each next_record l.fn.first l.others) l.fn.work
