-- The actual parameters of required procedures (6.6.5, 6.9).
use Rattle.std.specs.Prelude.{ℕ, None, Option, Some, false}
use Rattle.pas_tree.specs.StatementTrees.{ActualTree, ActualsTree, NextActualTree, WidthTree, actual_tree}
use Rattle.pas_tree.specs.declared.statements.NextActual.{NextActual}
use Rattle.core_program.specs.declared.rows.TextFile.{TextFile}
use Rattle.check_steps.specs.{Known.Known, Known.find, Known.name_at, Names.usable}
use Rattle.check_steps.specs.Steps.{◌>>=◌, Step, each, give, late}
use Rattle.expression_checker.specs.{Actuals.file_of, Expressions.expression, NamesAlone.name_alone}
use Rattle.expression_checker.specs.declared.typed.Typed.{Typed}

-- ---- widths

-- rule 33: a width outside write and writeln, at the `:`
unfoldable pub surplus_width : ℕ → WidthTree → Step (Unit {0})
surplus_width frame w = do
  _ ← expression frame w.width
  late 33 w.colon false

abbrev pub no_width : ℕ → Option WidthTree → Step (Unit {0})
no_width frame None = give tt
no_width frame (Some w) = surplus_width frame w

-- ---- actuals

-- an actual without width, whose own parts are checked
unfoldable pub plain_actual : ℕ → ActualTree → Step Typed
plain_actual frame a = do
  v ← expression frame a.expression
  _ ← no_width frame a.width
  give v

abbrev pub another_plain : ℕ → Unit {0} → NextActualTree → Step (Unit {0})
another_plain frame u n = do
  _ ← plain_actual frame n.actual
  give tt

-- the same of what the code holds
unfoldable pub next_plain : ℕ → Unit {0} → NextActual → Step (Unit {0})
next_plain frame u n = do
  _ ← plain_actual frame (actual_tree n.actual)
  give tt

-- Of actuals of which the number is wrong their own parts alone are checked.
unfoldable pub own_parts : ℕ → ActualsTree → Step (Unit {0})
own_parts frame a = do
  _ ← plain_actual frame a.first
  each (another_plain frame) tt a.others

-- rule 26: the number of actuals is wrong, at the procedure's name. The procedure's own name is given, at which no
-- statement stands.
unfoldable pub wrong_number : ℕ → ℕ → ActualsTree → Step ℕ
wrong_number frame name a = do
  _ ← late 26 name false
  _ ← own_parts frame a
  give name

unfoldable pub without_actuals : ℕ → Step ℕ
without_actuals name = do
  _ ← late 26 name false
  give name

-- ---- text files

abbrev pub named_file : Known → ℕ → Option ℕ → Option TextFile
named_file k frame None = None
named_file k frame (Some name) = file_of k (usable name (find k frame (name_at k name)))

abbrev pub file_without : Option WidthTree → Option TextFile → Option TextFile
file_without None file = file
file_without (Some w) file = None

-- the text file that an actual names, which is a name alone and has no width
abbrev pub actual_file : Known → ℕ → ActualTree → Option TextFile
actual_file k frame a = file_without a.width (named_file k frame (name_alone a.expression))
