use Rattle.std.proofs.Common.{◌≡◌, ◌≤◌, length, take}
use Rattle.check_steps.specs.Steps.{each_back, run_step}
use Rattle.denoter_checker.proofs.headings.put_other_sections.Given as goal
use Rattle.denoter_checker.specs.Headings.{put_next_section}

abbrev pub invariant-others : goal.invariant-others
invariant-others l = record {
  inside : l.left ≤ length l.others;
  so_far : run_step (each_back put_next_section l.next (take l.left l.others)) l.work ≡ run_step (each_back put_next_section 0 l.others) l.fn.work;
}

abbrev pub decreases-others : goal.decreases-others
decreases-others l = l.left
