use Rattle.std.proofs.Common.{◌++◌, ◌≡◌, drop}
use Rattle.evaluator.proofs.actuals.append_all.Given as goal

abbrev pub invariant-cells : goal.invariant-cells
invariant-cells l = record { so_far : l.list ++ drop l.i l.values ≡ l.fn.list ++ l.values }
