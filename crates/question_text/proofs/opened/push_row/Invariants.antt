use Rattle.std.proofs.Common.{◌++◌, ◌≡◌, ◌≤◌, Some, reverse}
use Rattle.question_text.proofs.opened.push_row.Given as goal
use Rattle.question_text.specs.Frames.{opened_from}

abbrev pub decreases-calls : goal.decreases-calls
decreases-calls l = l.left

abbrev pub invariant-calls : goal.invariant-calls
invariant-calls l = record {
  fewer : l.left ≤ l.most;
  so_far : opened_from l.calls.calls l.left (Some l.number) ++ reverse l.frames.items
      ≡ opened_from l.calls.calls l.most (Some l.from) ++ reverse l.fn.frames.items;
}
