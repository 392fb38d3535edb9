use Rattle.std.proofs.Common.{◌+◌, ◌≡◌, ◌≤◌, drop, length, map}
use Rattle.core_program.specs.{Passed.copied, Passed.placed, State.stack_end}
use Rattle.evaluator.proofs.calls.with_addresses.Given as goal
use Rattle.evaluator.specs.Rest.{copy_of}

abbrev pub invariant-copies : goal.invariant-copies
invariant-copies l = record {
  so_far : placed l.addr (map copy_of (drop l.copy-index l.copies)) l.held.items ≡ placed l.address (map copy_of l.copies) l.cells;
  fits : l.addr + length (copied (map copy_of (drop l.copy-index l.copies))) ≤ stack_end;
}
