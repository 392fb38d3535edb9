use Rattle.std.proofs.Common.{◌++◌, ◌≡◌, drop}
use Rattle.evaluator.proofs.calls.listed.Given as goal

abbrev pub invariant-values : goal.invariant-values
invariant-values l = record { so_far : l.list ++ drop l.value-index l.values ≡ l.values }
