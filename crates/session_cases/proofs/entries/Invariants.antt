use Rattle.std.proofs.Common.{◌≡◌, length}
use Rattle.session_cases.proofs.entries.Given as goal

abbrev pub invariant-loop-number : goal.invariant-loop-number
invariant-loop-number l = length l.entries ≡ l.number
