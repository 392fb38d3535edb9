-- What a call of `Lines::next` does, by what it answers.
use Rattle.std.specs.Prelude.{if◌then◌else◌, ◌++◌, ◌<◌, ◌∷◌, ◌≡◌, ◌≤◌, ◌⊎◌, [], ℕ, Err, IsTrue, List, None, Ok, Option}
use Rattle.std.specs.Prelude.{Result, Some, length, nat_le}
use Rattle.edge_ports.specs.{Limits.console_bytes, Limits.line_bytes, declared.lines.LineFault.LineFault}
use Rattle.edge_ports.specs.Lines.{HasWholeLine, IsCutAtLines, LinesState, unread}
use Rattle.edge_ports.specs.declared.lines.Turn.{Turn, TheVariants.End, TheVariants.Line, TheVariants.TooLong}

-- nothing more is asked of the source: a whole line is left in the bytes taken, or the end was seen, or all room is
-- used
abbrev pub AsksNothing : LinesState → Type 0
AsksNothing lines = HasWholeLine (unread lines) ⊎ IsTrue lines.ended ⊎ (length lines.taken ≡ console_bytes)

-- no more was handed out than taken, no more taken than there is room for, and less where the end was seen; what was
-- handed out is cut at lines
pub record IsConsistent (lines : LinesState) : Type 0 where
  pub handed : lines.handed ≤ length lines.taken
  pub taken : length lines.taken ≤ console_bytes
  pub seen : IsTrue lines.ended → length lines.taken < console_bytes
  pub cut : IsCutAtLines lines

-- the line that is shown of the next line: itself, if it is not too long
abbrev pub shown_line : Option (List ℕ × List ℕ) → List ℕ
shown_line (Some next) = if nat_le (length next.0) line_bytes then next.0 else []
shown_line None = []

-- more was handed out exactly where a line came, long or not
abbrev pub HandsOut : Result Turn LineFault → ℕ → ℕ → Type 0
HandsOut (Ok Line) old new = old < new
HandsOut (Ok TooLong) old new = old < new
HandsOut (Ok End) old new = new ≡ old
HandsOut (Err fault) old new = new ≡ old

-- what the answer says of the console's lines, those before the call and those after it; `line` is the one that is
-- shown
abbrev pub TurnsTo : Result Turn LineFault → List ℕ → List (List ℕ) → List (List ℕ) → Type 0
TurnsTo (Ok Line) line old new = (old ≡ line ∷ new) × (length line ≤ line_bytes)
TurnsTo (Ok TooLong) line old new = (long : List ℕ) × (old ≡ long ∷ new) × (line_bytes < length long)
TurnsTo (Ok End) line old new = (old ≡ []) × (new ≡ [])
TurnsTo (Err fault) line old new = new ≡ old

-- what the answer says of the lines handed out
abbrev pub HandedBy : Result Turn LineFault → List ℕ → List (List ℕ) → List (List ℕ) → Type 0
HandedBy (Ok Line) line old new = new ≡ old ++ line ∷ []
HandedBy (Ok TooLong) line old new = (long : List ℕ) × (new ≡ old ++ long ∷ []) × (line_bytes < length long)
HandedBy (Ok End) line old new = new ≡ old
HandedBy (Err fault) line old new = new ≡ old
