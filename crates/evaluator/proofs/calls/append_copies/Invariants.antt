use Rattle.std.proofs.Common.{◌++◌, ◌≡◌, drop, map}
use Rattle.core_program.specs.Passed.{copied}
use Rattle.evaluator.proofs.calls.append_copies.Given as goal
use Rattle.evaluator.specs.Rest.{copy_of}

abbrev pub invariant-copies : goal.invariant-copies
invariant-copies l = record {
  so_far : l.list ++ copied (map copy_of (drop l.copy-index l.copies)) ≡ l.fn.list ++ copied (map copy_of l.copies);
}
