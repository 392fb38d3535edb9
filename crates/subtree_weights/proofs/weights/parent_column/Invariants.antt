use Rattle.std.proofs.Common.{◌≡◌, take}
use Rattle.call_tree.specs.Recording.{parents_of}
use Rattle.subtree_weights.proofs.weights.parent_column.Given as goal

abbrev pub invariant-loop-call : goal.invariant-loop-call
invariant-loop-call l = l.column.items ≡ take l.call (parents_of l.calls.calls)
