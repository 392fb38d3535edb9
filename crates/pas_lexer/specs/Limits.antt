-- The largest size.
use Rattle.std.specs.Prelude.{ℕ}

-- the most bytes of a source
abbrev pub source_bytes : ℕ
source_bytes = 1048576
