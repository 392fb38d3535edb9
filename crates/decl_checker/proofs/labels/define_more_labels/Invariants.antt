use Rattle.std.proofs.Common.{◌≡◌, drop}
use Rattle.check_steps.specs.Steps.{each, run_step}
use Rattle.decl_checker.proofs.labels.define_more_labels.Given as goal
use Rattle.decl_checker.specs.Labels.{define_next_label}

abbrev pub invariant-labels : goal.invariant-labels
invariant-labels l =
    run_step (each (define_next_label l.here) tt (drop l.label-index l.labels)) l.work ≡ run_step (each (define_next_label l.here) tt l.labels) l.fn.work
