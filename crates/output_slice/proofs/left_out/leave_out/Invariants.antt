use Rattle.std.proofs.Common.{◌+◌, ◌-◌, ◌≤◌}
use Rattle.call_tree.specs.Recording.{parents_of}
use Rattle.output_slice.proofs.LeftOutStays.{WereJudged}
use Rattle.output_slice.proofs.left_out.leave_out.Given as goal
use Rattle.output_slice.specs.LeftOut.{left_out, steps_on, steps_on_all}

-- the calls up to here were judged that are left out
abbrev pub invariant-loop-below : goal.invariant-loop-below
invariant-loop-below g l = record {
  were : WereJudged l.fn.debug l.debug (parents_of l.calls.calls) l.slice.pairs l.call (l.below - (l.call + 1)) l.last;
  not_fallen : l.fn.steps ≤ l.steps;
  cost : l.steps ≤ l.fn.steps + steps_on l.fn.debug l.call
      + steps_on_all l.fn.debug (left_out l.fn.debug (parents_of l.calls.calls) l.slice.pairs l.call (l.below - (l.call + 1)));
}
