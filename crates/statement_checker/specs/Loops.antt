-- For statements (6.8.3.9): control variables, their threats, and bounds.
use Rattle.std.specs.Prelude.{if◌then◌else◌, ℕ, Bool, None, Option, Some, false, nat_eq, true}
use Rattle.pas_tree.specs.{OperatorPlaces.direction_token, declared.operators.Direction.Direction as DirectionTree}
use Rattle.core_program.specs.declared.rows.{Mode.Mode, NameRow.NameRow, Row.Row, StatementRow.StatementRow}
use Rattle.core_program.specs.declared.rows.Direction.{Direction, TheVariants.Down, TheVariants.Up}
use Rattle.check_steps.specs.{Names.use_again, declared.regions.Found.Found}
use Rattle.check_steps.specs.Known.{Known, frame_at, row_at, threat_of}
use Rattle.check_steps.specs.Steps.{◌>>=◌, Step, give, hold, late, look, release}
use Rattle.kind_checker.specs.{Operators.is_ordinal, Shapes.agree, Shapes.shape_of}
use Rattle.kind_checker.specs.declared.shapes.ExpressionType.{ExpressionType}
use Rattle.expression_checker.specs.{Threats.threat, declared.typed.Typed.Typed}
use Rattle.statement_checker.specs.{Sequences.line_of, Sequences.stated, declared.loops.Control.Control}

-- ---- control variables

-- A variable of a frame's own level is one of the closest block.
abbrev pub own_if : Bool → ℕ → ℕ → ℕ → Control
own_if own variable of' place =
    if own then Control.Own variable of' place else Control.Other (Some variable) of'

-- what a name stands for by the row at its definition, seen from a frame
abbrev pub control_in : Known → ℕ → ℕ → Row → Control
control_in k frame variable (Row.Name (NameRow.Variable Mode.Own of' place level)) =
    own_if (nat_eq level (frame_at k frame).level) variable of' place
control_in k frame variable (Row.Name (NameRow.Variable m of' place level)) = Control.Other (Some variable) of'
control_in k frame field (Row.Name (NameRow.Field of' offset holder)) = Control.Other None of'
control_in k frame field (Row.Name (NameRow.Tag of' offset holder variants)) = Control.Other None of'
control_in k frame name r = Control.Wrong

abbrev pub control_of : Known → ℕ → Option Found → Control
control_of k frame None = Control.Unknown
control_of k frame (Some f) = control_in k frame f.definition.token (row_at k f.definition.token)

abbrev pub control_type : Control → ExpressionType
control_type (Control.Own variable of' place) = ExpressionType.Of of'
control_type (Control.Other variable of') = ExpressionType.Of of'
control_type c = ExpressionType.Unknown

-- A name of unknown meaning breaks no further rule.
abbrev pub is_variable : Control → Bool
is_variable Control.Wrong = false
is_variable c = true

abbrev pub is_own : Control → Bool
is_own Control.Unknown = true
is_own (Control.Own variable of' place) = true
is_own c = false

-- rule 6: a control variable is not ordinal; rule 19: it is not a whole variable of the closest block's variable part;
-- both at the name
unfoldable pub controlled : ℕ → Control → Step (Unit {0})
controlled name c = do
  ordinal ← look (λ k. is_ordinal (shape_of k (control_type c)))
  _ ← late 6 name ordinal
  late 19 name (is_own c)

-- Rule 3: the name stands for another kind of thing than a variable, a parameter or a field. A variable as a whole is
-- threatened, since it may be the control variable of a for statement around.
unfoldable pub control_at : ℕ → ℕ → Step Control
control_at frame name = do
  found ← use_again frame name
  c ← look (λ k. control_of k frame found)
  _ ← late 3 name (is_variable c)
  _ ← controlled name c
  _ ← threat frame name
  give c

-- ---- inside of a for statement

-- the definition of a control variable that is a whole variable
abbrev pub held_by : Control → Option ℕ
held_by (Control.Own variable of' place) = Some variable
held_by (Control.Other variable of') = variable
held_by c = None

-- rule 20: a routine of the block threatens the control variable, at the first name there that does
abbrev pub unthreatened : Option ℕ → Step (Unit {0})
unthreatened None = give tt
unthreatened (Some name) = late 20 name false

unfoldable pub held : ℕ → Step (Unit {0})
held variable = do
  first ← look (λ k. threat_of k variable)
  _ ← unthreatened first
  hold variable

abbrev pub hold_if : Option ℕ → Step (Unit {0})
hold_if None = give tt
hold_if (Some variable) = held variable

abbrev pub release_if : Option ℕ → Step (Unit {0})
release_if None = give tt
release_if (Some variable) = release

-- into a for statement, of which the bounds are inside
unfoldable pub enter_for : ℕ → ℕ → Step Control
enter_for frame name = do
  c ← control_at frame name
  _ ← hold_if (held_by c)
  give c

-- out of it
abbrev pub leave_for : Control → Step (Unit {0})
leave_for c = release_if (held_by c)

-- ---- bounds

-- rule 21: a bound of a for statement is not compatible with the control variable, at the bound's first token
unfoldable pub bound : Control → ℕ → Typed → Step (Unit {0})
bound c first v = do
  fine ← look (λ k. agree (shape_of k (control_type c)) (shape_of k v.of))
  late 21 first fine

-- ---- rows

abbrev pub direction_of : DirectionTree → Direction
direction_of (DirectionTree.To n) = Up
direction_of (DirectionTree.Downto n) = Down

abbrev pub place_of : Control → ℕ
place_of (Control.Own variable of' place) = place
place_of c = 0

abbrev pub control_type_number : Control → ℕ
control_type_number (Control.Own variable of' place) = of'
control_type_number (Control.Other variable of') = of'
control_type_number c = 0

-- the turns of a for statement, at `to` or `downto`
unfoldable pub put_turns : DirectionTree → ℕ → Control → ℕ → Step ℕ
put_turns d last c body =
    stated (direction_token d) (StatementRow.Turns (direction_of d) last (place_of c) (control_type_number c) body)

unfoldable pub for_row : Option ℕ → ℕ → ℕ → ℕ → Step ℕ
for_row label word initial turns = do
  line ← look (λ k. line_of k label word)
  stated word (StatementRow.For line initial turns)
