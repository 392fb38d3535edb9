-- The largest sizes.
use Rattle.std.specs.Prelude.{ℕ}

-- the bytes of an input
abbrev pub input_bytes : ℕ
input_bytes = 4194304

-- the steps that a run may take
abbrev pub most_steps : ℕ
most_steps = 4000000
