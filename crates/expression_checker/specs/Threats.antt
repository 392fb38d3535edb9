-- Threats of control variables (6.8.3.9): where a variable is assigned, passed to a variable parameter, read, or a
-- control variable again.
use Rattle.std.specs.Prelude.{ℕ, Bool, None, Option, Some, nat_lt, not}
use Rattle.core_program.specs.declared.rows.{NameRow.NameRow, Row.Row}
use Rattle.check_steps.specs.{Names.usable, declared.regions.Found.Found}
use Rattle.check_steps.specs.Known.{Known, find, frame_at, is_control, name_at, row_at}
use Rattle.check_steps.specs.Steps.{◌>>=◌, Step, give, late, look, threaten, when}
use Rattle.expression_checker.specs.declared.threats.Whole.{Whole}

-- ---- whole variables

-- Parameters count, but no field of the record of a with statement.
abbrev pub whole_in : Found → Row → Option Whole
whole_in f (Row.Name (NameRow.Variable mode of' place level)) =
    Some (record { variable = f.definition.token; level = level })
whole_in f r = None

abbrev pub whole_of : Known → Option Found → Option Whole
whole_of k None = None
whole_of k (Some f) = whole_in f (row_at k f.definition.token)

-- the whole variable that a name alone stands for, seen from a frame
abbrev pub whole_variable : Known → ℕ → ℕ → Option Whole
whole_variable k frame name = whole_of k (usable name (find k frame (name_at k name)))

-- whether a frame is in a routine inside of the block that declares a variable
abbrev pub is_outer : Known → ℕ → Whole → Bool
is_outer k frame w = nat_lt w.level (frame_at k frame).level

-- ---- threats

-- Rule 20: the control variable of a for statement around is threatened, at the name. That a routine threatens a
-- variable of a block around is put down for the for statements of that block.
unfoldable pub threatened : ℕ → ℕ → Whole → Step (Unit {0})
threatened frame name w = do
  held ← look (λ k. is_control k w.variable)
  _ ← late 20 name (not held)
  outer ← look (λ k. is_outer k frame w)
  when outer (threaten w.variable name)

abbrev pub threat_to : ℕ → ℕ → Option Whole → Step (Unit {0})
threat_to frame name None = give tt
threat_to frame name (Some w) = threatened frame name w

-- a name alone threatens the whole variable that it stands for, if it does for one
unfoldable pub threat : ℕ → ℕ → Step (Unit {0})
threat frame name = do
  w ← look (λ k. whole_variable k frame name)
  threat_to frame name w

-- what may be a name alone
abbrev pub threat_alone : ℕ → Option ℕ → Step (Unit {0})
threat_alone frame None = give tt
threat_alone frame (Some name) = threat frame name
