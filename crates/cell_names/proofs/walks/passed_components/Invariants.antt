use Rattle.std.proofs.Common.{◌+◌, ◌-◌, ◌≡◌, ◌≤◌, ℕ, false}
use Rattle.cell_names.proofs.walks.passed_components.Given as goal
use Rattle.cell_names.specs.Walks.{is_indexed}

abbrev pub decreases-components : goal.decreases-components
decreases-components l = l.limit - l.more

abbrev pub invariant-components : goal.invariant-components
invariant-components l = (k : ℕ) → k ≤ l.more → is_indexed l.program l.array (l.place + k) l.name ≡ false
