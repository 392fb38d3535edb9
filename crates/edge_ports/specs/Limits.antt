-- The largest sizes.
use Rattle.std.specs.Prelude.{ℕ}

-- the most bytes that are taken of a console
abbrev pub console_bytes : ℕ
console_bytes = 16777216

-- the most bytes that are given to a sink at once
abbrev pub piece_bytes : ℕ
piece_bytes = 65536

-- the most bytes of a line that is shown, without its LF and a CR directly before that
abbrev pub line_bytes : ℕ
line_bytes = 4096
