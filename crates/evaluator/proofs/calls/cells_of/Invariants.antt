use Rattle.std.proofs.Common.{◌+◌, ◌≡◌, ◌≤◌, drop, length, map, min}
use Rattle.core_program.specs.Passed.{copied}
use Rattle.evaluator.proofs.calls.cells_of.Given as goal
use Rattle.evaluator.specs.Rest.{copy_of}

abbrev pub invariant-copies : goal.invariant-copies
invariant-copies l = record {
  so_far : min (l.cells + length (copied (map copy_of (drop l.copy-index l.copies)))) 4294967295 ≡ min (length (copied (map copy_of l.copies))) 4294967295;
  bound : l.cells ≤ 4294967295;
}
