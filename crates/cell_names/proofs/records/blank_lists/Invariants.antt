use Rattle.std.proofs.Common.{◌≡◌, [], replicate}
use Rattle.cell_names.proofs.records.blank_lists.Given as goal

abbrev pub invariant-lists : goal.invariant-lists
invariant-lists l = l.lists.items ≡ replicate l.counter []
