use Rattle.std.proofs.Common.{◌≡◌, drop}
use Rattle.check_steps.specs.Steps.{each, run_step}
use Rattle.kind_checker.proofs.types.check_more_enumerated.Given as goal
use Rattle.kind_checker.specs.{Names.on_name, Types.enumerated}

abbrev pub invariant-names : goal.invariant-names
invariant-names l =
    run_step (each (on_name (enumerated l.of)) l.ordinal (drop l.name-index l.names)) l.work
    ≡ run_step (each (on_name (enumerated l.of)) l.last l.names) l.fn.work
