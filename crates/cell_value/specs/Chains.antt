-- How many links a chain has.
use Rattle.std.specs.Prelude.{◌+◌, ℕ}
use Rattle.cell_value.specs.declared.steps_taken.Chain.{Chain, TheVariants.Link', TheVariants.Start}

abbrev pub links : Chain → ℕ
links Start = 0
links (Link' shape before) = links before + 1
