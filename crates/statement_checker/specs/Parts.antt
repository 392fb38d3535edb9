-- Statements without others inside, and what statements have of expressions and accesses (6.8.2, 6.8.3).
use Rattle.std.specs.Prelude.{◌+◌, ℕ, None, Option, Some, length}
use Rattle.pas_tree.specs.{ExpressionPlaces.first_of_expression, declared.operators.Direction.Direction}
use Rattle.pas_tree.specs.ExpressionTrees.{AccessTree, ExpressionTree}
use Rattle.pas_tree.specs.StatementTrees.{ActualTree, ActualsTree, AssignmentTree, NextAccessTree, NextActualTree}
use Rattle.pas_tree.specs.StatementTrees.{actual_tree, next_access_tree}
use Rattle.pas_tree.specs.declared.statements.{NextAccess.NextAccess, NextActual.NextActual}
use Rattle.check_steps.specs.Steps.{◌>>=◌, Step, each, give, look}
use Rattle.expression_checker.specs.{Callees.count_checked, Threats.threat_alone}
use Rattle.expression_checker.specs.Expressions.{access, actual, expression, passing_to}
use Rattle.expression_checker.specs.NamesAlone.{access_name, is_name}
use Rattle.expression_checker.specs.declared.{actuals.Passing.Passing, callees.Callee.Callee, typed.Typed.Typed}
use Rattle.statement_checker.specs.{Actuals.no_width, Calls.call_row, Calls.procedure_at, Choices.selector}
use Rattle.statement_checker.specs.{Conditions.condition, Procedures.required_call, Records.inside_record}
use Rattle.statement_checker.specs.Assignments.{assigned, blockless_target, result_target, target_at}
use Rattle.statement_checker.specs.Loops.{bound, enter_for, for_row, leave_for, put_turns}
use Rattle.statement_checker.specs.Sequences.{add_element, line_of}
use Rattle.statement_checker.specs.declared.{assignments.Target.Target, loops.Control.Control}
use Rattle.statement_checker.specs.declared.parts.{ForBounds.ForBounds, Opened.Opened, Selected.Selected}

-- ---- expressions

-- a condition, by its number
unfoldable pub condition_row : ℕ → ExpressionTree → Step ℕ
condition_row frame e = do
  v ← expression frame e
  _ ← condition (first_of_expression e) v
  give v.row

-- a bound of a for statement, by its number
unfoldable pub bounded : ℕ → Control → ExpressionTree → Step ℕ
bounded frame c e = do
  v ← expression frame e
  _ ← bound c (first_of_expression e) v
  give v.row

-- a for statement up to its bounds, which are inside of it
unfoldable pub for_begins : ℕ → ℕ → ExpressionTree → ExpressionTree → Step ForBounds
for_begins frame name initial last = do
  c ← enter_for frame name
  from ← bounded frame c initial
  to ← bounded frame c last
  give (record { control = c; initial = from; last = to })

-- the same after its body
unfoldable pub for_ends : Option ℕ → ℕ → Direction → ForBounds → ℕ → Step ℕ
for_ends label word direction b body = do
  _ ← leave_for b.control
  turns ← put_turns direction b.last b.control body
  for_row label word b.initial turns

-- the selector of a case statement before the word `of`
unfoldable pub selected : ℕ → ℕ → ExpressionTree → Step Selected
selected frame of' e = do
  v ← expression frame e
  c ← selector frame of' (first_of_expression e) v
  give (record { choosing = c; row = v.row })

-- ---- assignments

-- a variable as a whole is threatened
unfoldable pub target_access : ℕ → AccessTree → Step Typed
target_access frame a = do
  _ ← threat_alone frame (access_name a)
  access frame a

abbrev pub target_as : ℕ → AccessTree → Target → Step Typed
target_as frame a Target.Access = target_access frame a
target_as frame a (Target.Result r) = result_target frame a.name r
target_as frame a Target.Blockless = blockless_target a.name

-- what stands on the left: an access, or the name alone of a function
unfoldable pub assigned_to : ℕ → AccessTree → Step Typed
assigned_to frame a = do
  t ← look (λ k. target_at k frame a.name (is_name a.selectors))
  target_as frame a t

unfoldable pub assignment : ℕ → Option ℕ → AssignmentTree → Step ℕ
assignment frame label a = do
  to ← assigned_to frame a.target
  v ← expression frame a.value
  line ← look (λ k. line_of k label a.target.name)
  assigned line a.becomes to v

-- ---- calls

-- an actual parameter of a procedure that is not required, at the parenthesis or the comma before it
unfoldable pub passed_actual : ℕ → Passing → ℕ → ActualTree → Step Passing
passed_actual frame p slot a = do
  next ← actual frame p slot a.expression
  _ ← no_width frame a.width
  give next

abbrev pub another_passed : ℕ → Passing → NextActualTree → Step Passing
another_passed frame p n = passed_actual frame p n.comma n.actual

-- the same of what the code holds
unfoldable pub next_passed : ℕ → Passing → NextActual → Step Passing
next_passed frame p n = passed_actual frame p n.comma (actual_tree n.actual)

abbrev pub actuals_in : ActualsTree → ℕ
actuals_in a = length a.others + 1

-- a call with actual parameters, at the procedure's name: their list stands at the `(`
unfoldable pub call_with : ℕ → ℕ → ℕ → Callee → ActualsTree → Step ℕ
call_with frame line name c a = do
  called ← count_checked name c (actuals_in a)
  one ← passed_actual frame (passing_to called name) a.left a.first
  _ ← each (another_passed frame) one a.others
  call_row line name called.callee a.left

-- a call without actual parameters
unfoldable pub call_alone : ℕ → ℕ → Callee → Step ℕ
call_alone line name c = do
  called ← count_checked name c 0
  call_row line name called.callee 0

abbrev pub declared_call : ℕ → ℕ → ℕ → Callee → Option ActualsTree → Step ℕ
declared_call frame line name c None = call_alone line name c
declared_call frame line name c (Some a) = call_with frame line name c a

abbrev pub call_as : ℕ → ℕ → ℕ → Callee → Option ActualsTree → Step ℕ
call_as frame line name (Callee.Required r) actuals =
    required_call r frame (record { name = name; line = line }) actuals
call_as frame line name c actuals = declared_call frame line name c actuals

-- a procedure statement
unfoldable pub call_statement : ℕ → Option ℕ → ℕ → Option ActualsTree → Step ℕ
call_statement frame label name actuals = do
  c ← procedure_at frame name
  line ← look (λ k. line_of k label name)
  call_as frame line name c actuals

-- ---- with statements

-- the first record of a with statement, in the list at its word
unfoldable pub first_record : ℕ → ℕ → AccessTree → Step Opened
first_record frame word a = do
  v ← access frame a
  inner ← inside_record frame a.name v
  give (record { frame = inner; last = record { slot = word; item = v.row } })

-- Each access is seen from inside of those before it.
unfoldable pub another_record : Opened → NextAccessTree → Step Opened
another_record o n = do
  v ← access o.frame n.access
  inner ← inside_record o.frame n.access.name v
  last ← add_element o.last n.comma v.row
  give (record { frame = inner; last = last })

-- the same of what the code holds
unfoldable pub next_record : Opened → NextAccess → Step Opened
next_record o n = another_record o (next_access_tree n)
