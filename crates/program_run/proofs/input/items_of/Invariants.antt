use Rattle.std.proofs.Common.{◌*◌, ◌++◌, ◌≡◌, ◌≤◌, drop, length}
use Rattle.core_program.specs.Run.{input_items}
use Rattle.program_run.proofs.input.items_of.Given as goal

abbrev pub invariant-bytes : goal.invariant-bytes
invariant-bytes l = record {
  few : length l.items ≤ 2 * l.at;
  put : l.items ++ input_items (drop l.at l.input) ≡ input_items l.input;
}
