use Rattle.std.proofs.Common.{◌≡◌, drop}
use Rattle.check_steps.specs.Steps.{each, run_step}
use Rattle.statement_checker.proofs.transfers.check_more_items.Given as goal
use Rattle.statement_checker.specs.Transfers.{next_item}

abbrev pub invariant-others : goal.invariant-others
invariant-others l =
    run_step (each (next_item l.transfer l.frame) l.last (drop l.other-index l.others)) l.work
    ≡ run_step (each (next_item l.transfer l.frame) l.fn.first l.others) l.fn.work
