use Rattle.std.proofs.Common.{◌≡◌}
use Rattle.cell_names.proofs.layouts.block_start.Given as goal
use Rattle.cell_names.specs.Layouts.{block_start}

abbrev pub decreases-tokens : goal.decreases-tokens
decreases-tokens l = l.token

abbrev pub invariant-tokens : goal.invariant-tokens
invariant-tokens l = block_start l.program l.number l.name l.token ≡ block_start l.program l.number l.name l.before
