use Rattle.std.proofs.Common.{◌*◌, ◌≡◌, ◌≤◌, sum_by, take}
use Rattle.answer_reuse.proofs.classes.touches_between.Given as goal
use Rattle.answer_reuse.specs.Keys.{touches_made}

abbrev pub invariant-calls : goal.invariant-calls
invariant-calls l = record {
  sum : l.sum ≡ sum_by touches_made (take l.call l.calls.calls);
  fits : l.sum ≤ l.call * 4294967295;
}
