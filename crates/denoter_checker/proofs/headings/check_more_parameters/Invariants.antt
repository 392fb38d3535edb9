use Rattle.std.proofs.Common.{◌≡◌, drop}
use Rattle.check_steps.specs.Steps.{each, run_step}
use Rattle.kind_checker.specs.Names.{on_name}
use Rattle.denoter_checker.proofs.headings.check_more_parameters.Given as goal
use Rattle.denoter_checker.specs.Headings.{parameter}

abbrev pub invariant-names : goal.invariant-names
invariant-names l =
    run_step (each (on_name (parameter l.mode l.level l.of)) l.next (drop l.name-index l.names)) l.work
    ≡ run_step (each (on_name (parameter l.mode l.level l.of)) l.fn.at l.names) l.fn.work
