use Rattle.std.proofs.Common.{◌≡◌, ◌≤◌, length, take}
use Rattle.check_steps.specs.Steps.{each_back, run_step}
use Rattle.denoter_checker.proofs.arrays.check_joins.Given as goal
use Rattle.denoter_checker.specs.Arrays.{next_joined}

abbrev pub invariant-others : goal.invariant-others
invariant-others l = record {
  inside : l.left ≤ length l.others;
  so_far : run_step (each_back (next_joined l.packed) l.kind (take l.left l.others)) l.work
      ≡ run_step (each_back (next_joined l.packed) l.fn.component l.others) l.fn.work;
}

abbrev pub decreases-others : goal.decreases-others
decreases-others l = l.left
