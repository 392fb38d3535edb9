-- The lines of a console, and how far a reader of them has come.
use Rattle.std.specs.Prelude.{◌++◌, ◌+◌, ◌-◌, ◌<◌, ◌==◌, ◌∷◌, ◌≡◌, ◌≤◌, ◌⊎◌, [], ℕ, Bool, IsSome, IsTrue, List, None}
use Rattle.std.specs.Prelude.{Option, Some, drop, false, length, position, slice_index, take, true}
use Rattle.std.specs.{List.slice_split, Str.Lines.lines, Str.Lines.strip_carriage_return}
use Rattle.edge_ports.specs.Told.{TookAll}

-- the lines of these bytes, as `str::lines` gives them: each ends at LF, and loses a CR directly before that; a last
-- part
-- with no LF is a line, unless it is empty
abbrev pub lines_of : List ℕ → List (List ℕ)
lines_of bytes = lines bytes

-- the whole lines among these parts, all but the last one
abbrev pub whole_parts : List (List ℕ) → List (List ℕ)
whole_parts [] = []
whole_parts (part ∷ []) = []
whole_parts (part ∷ next ∷ parts) = strip_carriage_return part ∷ whole_parts (next ∷ parts)

-- LF
abbrev pub is_line_end : ℕ → Bool
is_line_end byte = byte == 10

-- the lines of these bytes whose LF is there
abbrev pub whole_lines : List ℕ → List (List ℕ)
whole_lines bytes = whole_parts (slice_split is_line_end bytes)

-- the lines of bytes that were heard: those whose LF is there, and the last part too where the end was seen
abbrev pub lines_heard : Bool → List ℕ → List (List ℕ)
lines_heard true bytes = lines_of bytes
lines_heard false bytes = whole_lines bytes

-- where the first LF stands, if there is one
abbrev pub line_end_of : List ℕ → Option ℕ
line_end_of bytes = position is_line_end bytes

-- the first line is there, with its LF
abbrev pub HasWholeLine : List ℕ → Type 0
HasWholeLine bytes = IsSome (line_end_of bytes)

-- the line that ends at an LF at this place, or the last part of a console whose end was seen, unless it is empty; and
-- the
-- bytes after it
abbrev pub line_up_to : Option ℕ → Bool → List ℕ → Option (List ℕ × List ℕ)
line_up_to (Some place) ended bytes = Some (strip_carriage_return (take place bytes), drop (place + 1) bytes)
line_up_to None true (byte ∷ bytes) = Some (byte ∷ bytes, [])
line_up_to None true [] = None
line_up_to None false bytes = None

-- the next line of these bytes, if it is there, and the bytes after it
abbrev pub next_line : Bool → List ℕ → Option (List ℕ × List ℕ)
next_line ended bytes = line_up_to (line_end_of bytes) ended bytes

-- the bytes taken from the source, how many of them were handed out in lines, whether the source's end was seen, and
-- the
-- line that is shown
pub record LinesState : Type 0 where
  pub taken : List ℕ
  pub handed : ℕ
  pub ended : Bool
  pub line : List ℕ

-- the bytes taken and not handed out
abbrev pub unread : LinesState → List ℕ
unread lines = drop lines.handed lines.taken

-- the bytes handed out
abbrev pub handed_bytes : LinesState → List ℕ
handed_bytes lines = take lines.handed lines.taken

-- nothing comes after the last LF
abbrev pub EndsWhole : List ℕ → Type 0
EndsWhole bytes = 0 < length bytes → slice_index bytes (length bytes - 1) ≡ 10

-- only the last part of a console whose end was seen is handed out without an LF
abbrev pub IsCutAtLines : LinesState → Type 0
IsCutAtLines lines = (IsTrue lines.ended → lines.handed < length lines.taken) → EndsWhole (handed_bytes lines)

-- the lines handed out, those that were too long included
abbrev pub handed_lines : LinesState → List (List ℕ)
handed_lines lines = lines_of (handed_bytes lines)

-- the first `used` of the unread bytes are a line with its LF, or the last part of a console whose end was seen
pub record IsUsed (lines : LinesState) (used : ℕ) : Type 0 where
  pub some : 0 < used
  pub within : used ≤ length (unread lines)
  pub end : (slice_index (unread lines) (used - 1) ≡ 10) ⊎ (IsTrue lines.ended × (used ≡ length (unread lines)))

-- the bytes that a call may hand out, those that it took included
abbrev pub reach : LinesState → LinesState → List ℕ
reach old new = drop old.handed new.taken

-- the next line of these, and the bytes after it
abbrev pub upcoming : LinesState → LinesState → Option (List ℕ × List ℕ)
upcoming old new = next_line new.ended (reach old new)

-- bytes moved from the front of what is left to the end of what was taken
pub record Moves (taken taken' : List ℕ) (left left' : Option (List ℕ)) : Type 0 where
  pub more : List ℕ
  pub grown : taken' ≡ taken ++ more
  pub took : TookAll left left' more

-- The source tells that these bytes are still to come: those unread, and those that it has left. Where its end was
-- seen, it
-- has none left.
pub record StillComes (lines : LinesState) (left : Option (List ℕ)) (bytes : List ℕ) : Type 0 where
  pub more : List ℕ
  pub told : left ≡ Some more
  pub whole : bytes ≡ unread lines ++ more
  pub ended : IsTrue lines.ended → more ≡ []
