-- How long the parts of the log are of a call and of the calls below it.
use Rattle.std.specs.Prelude.{◌+◌, ◌-◌, ℕ, List, drop, sum_by, take}
use Rattle.call_tree.specs.declared.records.Call.{Call}

abbrev pub touches_of : Call → ℕ
touches_of row = row.exit.mark - row.entry.mark

-- the touches of a call and of each call below it, of which there are so many
abbrev pub touches_below : List Call → (call below : ℕ) → ℕ
touches_below rows call below = sum_by touches_of (take (below + 1) (drop call rows))
