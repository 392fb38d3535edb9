-- The largest size.
use Rattle.std.specs.Prelude.{ℕ}

-- the most bytes of a session's file
abbrev pub session_bytes : ℕ
session_bytes = 67108864
