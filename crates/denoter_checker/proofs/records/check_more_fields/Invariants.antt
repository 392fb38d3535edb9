use Rattle.std.proofs.Common.{◌≡◌, drop}
use Rattle.check_steps.specs.Steps.{each, run_step}
use Rattle.kind_checker.specs.Names.{on_name}
use Rattle.denoter_checker.proofs.records.check_more_fields.Given as goal
use Rattle.denoter_checker.specs.Denoters.{field_place}

abbrev pub invariant-names : goal.invariant-names
invariant-names l =
    run_step (each (on_name (field_place l.holder l.of)) l.next (drop l.name-index l.names)) l.work
    ≡ run_step (each (on_name (field_place l.holder l.of)) l.offset l.names) l.fn.work
