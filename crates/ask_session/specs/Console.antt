-- What may be known of a console before the dialog begins, and what the screen gets then.
use Rattle.std.specs.Prelude.{◌<◌, ◌≡◌, ◌≤◌, ◌⊎◌, ℕ, IsTrue, List, Option, false, length, take}
use Rattle.edge_ports.specs.{Counts.Rose, Limits.console_bytes, Lines.whole_lines, Told.GaveAll, Told.GavePrefix}
use Rattle.ask_session.specs.{Dialog.Granted, Dialog.ends_among, Wishes.Wish, declared.dialog.Ending.Ending}

-- a count did not rise, and does not stand at its last value
abbrev pub NotRisen : ℕ → ℕ → Type 0
NotRisen before now = Rose before now → ⊥

-- a console with these bytes ends before console_bytes of it were taken, or a whole line among those ends the session
abbrev pub EndsInTime : List ℕ → Type 0
EndsInTime bytes = (length bytes < console_bytes) ⊎ IsTrue (ends_among (whole_lines (take console_bytes bytes)))

-- it has at least console_bytes, and no whole line among those ends the session
abbrev pub GoesOn : List ℕ → Type 0
GoesOn bytes = (console_bytes ≤ length bytes) × (ends_among (whole_lines (take console_bytes bytes)) ≡ false)

-- the whole text was given where the dialog is done or its session is refused, and else a first part of it
abbrev pub GaveOf : Ending → Option (List ℕ) → Option (List ℕ) → List ℕ → Type 0
GaveOf Ending.Done given given' text = GaveAll given given' text
GaveOf Ending.Console given given' text = GavePrefix given given' text
GaveOf Ending.Screen given given' text = GavePrefix given given' text
GaveOf Ending.Spent given given' text = GavePrefix given given' text
GaveOf Ending.Refused given given' text = GaveAll given given' text
GaveOf Ending.Memory given given' text = GavePrefix given given' text

-- each of these wishes was answered where the dialog is done, and else the first ones were
abbrev pub FirstAnswered : Ending → (granted : List Granted) → List Wish → Type 0
FirstAnswered Ending.Done granted wishes = length granted ≡ length wishes
FirstAnswered Ending.Console granted wishes = length granted ≤ length wishes
FirstAnswered Ending.Screen granted wishes = length granted ≤ length wishes
FirstAnswered Ending.Spent granted wishes = length granted ≤ length wishes
FirstAnswered Ending.Refused granted wishes = length granted ≤ length wishes
FirstAnswered Ending.Memory granted wishes = length granted ≤ length wishes
