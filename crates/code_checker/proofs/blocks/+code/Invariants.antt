use Rattle.std.proofs.Common.{◌≡◌, drop}
use Rattle.check_steps.specs.Steps.{each, run_step}
use Rattle.code_checker.proofs.blocks.+code.Given as goal
use Rattle.code_checker.specs.Blocks.{code_next_routine}

abbrev pub invariant-check_routines-routines : goal.invariant-check_routines-routines
invariant-check_routines-routines l =
    run_step (each code_next_routine tt (drop l.routine-index l.routines)) l.work ≡ run_step (each code_next_routine tt l.routines) l.fn.work
