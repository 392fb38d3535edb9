use Rattle.std.proofs.Common.{◌++◌, ◌≡◌}
use Rattle.effect_log.proofs.cells_found.in_order.Given as goal

abbrev pub invariant-loop-addr : goal.invariant-loop-addr
invariant-loop-addr g l = l.items ++ l.addr-iterator ≡ l.map.entries
