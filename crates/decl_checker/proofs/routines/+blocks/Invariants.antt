use Rattle.std.proofs.Common.{◌≡◌, drop}
use Rattle.pas_tree.specs.BlockTrees.{routine_trees}
use Rattle.check_steps.specs.Steps.{each, run_step}
use Rattle.decl_checker.proofs.routines.+blocks.Given as goal
use Rattle.decl_checker.specs.Routines.{next_routine}

abbrev pub invariant-check_routines-routines : goal.invariant-check_routines-routines
invariant-check_routines-routines l =
    run_step (each (next_routine l.frame (routine_trees l.routines)) tt (drop l.routine-index l.routines)) l.work
    ≡ run_step (each (next_routine l.frame (routine_trees l.routines)) tt l.routines) l.fn.work
