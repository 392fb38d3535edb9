use Rattle.std.proofs.Common.{◌≡◌, take}
use Rattle.call_tree.specs.Recording.{depths_of}
use Rattle.optimal_query.proofs.markings.depth_column.Given as goal

abbrev pub invariant-loop-call : goal.invariant-loop-call
invariant-loop-call l = l.column.items ≡ take l.call (depths_of l.calls.calls)
