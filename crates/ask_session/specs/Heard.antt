-- What is heard of a console, and what a dialog gives by how it ends.
use Rattle.std.specs.Prelude.{◌<◌, ◌≡◌, ◌≤◌, ◌⊎◌, [], ℕ, Bool, IsSome, IsTrue, List, None, Option, false, length, true}
use Rattle.std.specs.Io.KnownBytes.{IsAtEnd}
use Rattle.edge_ports.specs.{Limits.console_bytes, Lines.lines_heard, Told.GaveAll, Told.GavePrefix, Told.TookAll}
use Rattle.dialog_replies.specs.declared.misfits.Misfit.{Misfit}
use Rattle.ask_session.specs.{Dialog.ends_among, declared.dialog.Ending.Ending}

-- the bytes that were taken of it, and whether its end was seen
pub record Heard : Type 0 where
  pub bytes : List ℕ
  pub ended : Bool

-- the lines that can be answered: those whose LF was heard, and the last part too where the end was seen
abbrev pub lines_in : Heard → List (List ℕ)
lines_in x = lines_heard x.ended x.bytes

-- These bytes were taken, at most console_bytes; fewer where the end was seen, and then none is left.
pub record IsHeard (left left' : Option (List ℕ)) (x : Heard) : Type 0 where
  pub took : TookAll left left' x.bytes
  pub within : length x.bytes ≤ console_bytes
  pub room : IsTrue x.ended → length x.bytes < console_bytes
  pub at_end : IsTrue x.ended → IsAtEnd left'

-- why a dialog ended: at the console's end or a line that ends it; or at no such line, with all console_bytes taken
-- where it was spent, and fewer where the console failed; or before the console was asked
abbrev pub EndedBy : Ending → Heard → Type 0
EndedBy Ending.Done x = IsTrue x.ended ⊎ IsTrue (ends_among (lines_in x))
EndedBy Ending.Console x = (x.ended ≡ false) × (ends_among (lines_in x) ≡ false) × (length x.bytes < console_bytes)
EndedBy Ending.Spent x = (x.ended ≡ false) × (ends_among (lines_in x) ≡ false) × (length x.bytes ≡ console_bytes)
EndedBy Ending.Refused x = (x.bytes ≡ []) × (x.ended ≡ false)
EndedBy Ending.Screen x = Unit {0}
EndedBy Ending.Memory x = Unit {0}

-- a saved session that does not fit is refused, and no other, unless the screen failed or memory ran out
abbrev pub RefusedBy : Ending → Option Misfit → Type 0
RefusedBy Ending.Done misfit = misfit ≡ None
RefusedBy Ending.Console misfit = misfit ≡ None
RefusedBy Ending.Spent misfit = misfit ≡ None
RefusedBy Ending.Refused misfit = IsSome misfit
RefusedBy Ending.Screen misfit = Unit {0}
RefusedBy Ending.Memory misfit = Unit {0}

-- a dialog that ended so has given the whole text, or, where the screen failed or memory ran out, a first part of it
abbrev pub GaveBy : Ending → Option (List ℕ) → Option (List ℕ) → List ℕ → Type 0
GaveBy Ending.Done given given' text = GaveAll given given' text
GaveBy Ending.Console given given' text = GaveAll given given' text
GaveBy Ending.Spent given given' text = GaveAll given given' text
GaveBy Ending.Refused given given' text = GaveAll given given' text
GaveBy Ending.Screen given given' text = GavePrefix given given' text
GaveBy Ending.Memory given given' text = GavePrefix given given' text

-- the screen failed
abbrev pub is_screen : Ending → Bool
is_screen Ending.Screen = true
is_screen _ = false

-- the console failed
abbrev pub is_console : Ending → Bool
is_console Ending.Console = true
is_console _ = false
