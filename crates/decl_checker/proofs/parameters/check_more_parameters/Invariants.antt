use Rattle.std.proofs.Common.{◌≡◌, drop}
use Rattle.check_steps.specs.Steps.{each, run_step}
use Rattle.kind_checker.specs.Names.{on_name}
use Rattle.decl_checker.proofs.parameters.check_more_parameters.Given as goal
use Rattle.decl_checker.specs.Parameters.{program_parameter}

abbrev pub invariant-names : goal.invariant-names
invariant-names l =
    run_step (each (on_name (program_parameter l.region)) tt (drop l.name-index l.names)) l.work
    ≡ run_step (each (on_name (program_parameter l.region)) tt l.names) l.fn.work
