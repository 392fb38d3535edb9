-- The largest sizes, and which bytes are printed.
use Rattle.std.specs.Prelude.{ℕ}

-- the most bytes of a note
abbrev pub note_bytes : ℕ
note_bytes = 100

-- the first byte that is printed, a space
abbrev pub first_printed : ℕ
first_printed = 32

-- the last one, a tilde
abbrev pub last_printed : ℕ
last_printed = 126

-- the most replies that are kept
abbrev pub most_replies : ℕ
most_replies = 100000
