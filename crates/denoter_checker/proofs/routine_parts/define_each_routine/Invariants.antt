use Rattle.std.proofs.Common.{◌≡◌, drop}
use Rattle.check_steps.specs.Steps.{each, run_step}
use Rattle.denoter_checker.proofs.routine_parts.define_each_routine.Given as goal
use Rattle.denoter_checker.specs.RoutineParts.{define_next_routine}

abbrev pub invariant-routines : goal.invariant-routines
invariant-routines l =
    run_step (each (define_next_routine l.region) l.position (drop l.routine-index l.routines)) l.work
    ≡ run_step (each (define_next_routine l.region) 0 l.routines) l.fn.work
