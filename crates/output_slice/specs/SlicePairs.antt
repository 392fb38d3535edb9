-- The slice of an output as clauses see it.
use Rattle.std.specs.Prelude.{ℕ, List}
use Rattle.output_slice.specs.declared.outputs.Output.{Output}

-- the pairs, and how many calls the run has
pub record Sliced : Type 0 where
  pub pairs : List (ℕ × Output)
  pub calls : ℕ
