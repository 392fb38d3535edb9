use Rattle.std.proofs.Common.{◌≡◌, drop}
use Rattle.check_steps.specs.Steps.{each, run_step}
use Rattle.denoter_checker.proofs.routine_parts.check_blocks.Given as goal
use Rattle.denoter_checker.specs.RoutineParts.{next_has_block}

abbrev pub invariant-routines : goal.invariant-routines
invariant-routines l = run_step (each next_has_block tt (drop l.routine-index l.routines)) l.work ≡ run_step (each next_has_block tt l.routines) l.fn.work
