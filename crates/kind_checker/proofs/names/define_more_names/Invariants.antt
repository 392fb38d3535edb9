use Rattle.std.proofs.Common.{◌≡◌, drop}
use Rattle.check_steps.specs.Steps.{each, run_step}
use Rattle.kind_checker.proofs.names.define_more_names.Given as goal
use Rattle.kind_checker.specs.Names.{define_name, on_name}

abbrev pub invariant-names : goal.invariant-names
invariant-names l =
    run_step (each (on_name (define_name l.region l.kind)) tt (drop l.name-index l.names)) l.work
    ≡ run_step (each (on_name (define_name l.region l.kind)) tt l.names) l.fn.work
