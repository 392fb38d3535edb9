use Rattle.std.proofs.Common.{◌+◌, ◌-◌, ◌≡◌, length}
use Rattle.call_tree.specs.Recording.{parents_of}
use Rattle.output_slice.proofs.left_out.count_apart.Given as goal
use Rattle.output_slice.specs.LeftOut.{left_out}

abbrev pub invariant-loop-below : goal.invariant-loop-below
invariant-loop-below l = l.count ≡ length (left_out l.debug (parents_of l.calls.calls) l.slice.pairs l.call (l.below - (l.call + 1)))
