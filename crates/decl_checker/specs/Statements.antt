-- The names that statements use (6.8).
use Rattle.std.specs.Prelude.{if◌then◌else◌, ◌+◌, ℕ, None, Option, Some, nat_lt}
use Rattle.pas_tree.specs.{ConstantTrees.constants_tree, declared.statements.NextStatement.NextStatement}
use Rattle.pas_tree.specs.ExpressionTrees.{AccessTree, access_tree}
use Rattle.pas_tree.specs.StatementTrees.{ActualTree, ActualsTree, AssignmentTree, BranchTree, BranchTrees, CaseTree}
use Rattle.pas_tree.specs.StatementTrees.{CompoundTree, ElseTree, IfTree, NextAccessTree, NextActualTree, PlainTree}
use Rattle.pas_tree.specs.StatementTrees.{RepeatTree, StatementTree, StatementTrees, StatementsTree, WidthTree}
use Rattle.pas_tree.specs.StatementTrees as tree
use Rattle.pas_tree.specs.declared.statements.{NextAccess.NextAccess, NextActual.NextActual, NextBranch.NextBranch}
use Rattle.core_program.specs.declared.rows.TypeRow.{TypeRow}
use Rattle.check_steps.specs.Known.{frame_at, type_at}
use Rattle.check_steps.specs.Steps.{◌>>=◌, Step, each, give, look, open_frame}
use Rattle.denoter_checker.specs.Variants.{constants_uses}
use Rattle.decl_checker.specs.Accesses.{access_type, access_uses, expression_uses, name_use}

-- ---- assignments and calls

unfoldable pub assignment_uses : ℕ → AssignmentTree → Step (Unit {0})
assignment_uses frame a = do
  _ ← access_uses frame a.target
  expression_uses frame a.value

abbrev pub width_uses : ℕ → Option WidthTree → Step (Unit {0})
width_uses frame None = give tt
width_uses frame (Some w) = expression_uses frame w.width

unfoldable pub actual_uses : ℕ → ActualTree → Step (Unit {0})
actual_uses frame a = do
  _ ← expression_uses frame a.expression
  width_uses frame a.width

abbrev pub another_actual : ℕ → Unit {0} → NextActualTree → Step (Unit {0})
another_actual frame u n = actual_uses frame n.actual

unfoldable pub some_actuals_uses : ℕ → ActualsTree → Step (Unit {0})
some_actuals_uses frame a = do
  _ ← actual_uses frame a.first
  each (another_actual frame) tt a.others

abbrev pub actuals_uses : ℕ → Option ActualsTree → Step (Unit {0})
actuals_uses frame None = give tt
actuals_uses frame (Some a) = some_actuals_uses frame a

-- ---- with statements

-- the region of a record's fields
abbrev pub fields_in : Option TypeRow → Option ℕ
fields_in (Some (TypeRow.Record packed region cells variants)) = Some region
fields_in t = None

-- one with statement more
abbrev pub one_more_with : ℕ → ℕ
one_more_with n = if nat_lt n 4294967295 then n + 1 else n

-- a frame in which a record's fields are the closest region
unfoldable pub open_fields : ℕ → ℕ → Step ℕ
open_fields frame region = do
  outer ← look (λ k. frame_at k frame)
  open_frame (record {
    region = region;
    outer = Some frame;
    level = outer.level;
    withs = one_more_with outer.withs;
  })

abbrev pub inside_of : ℕ → Option ℕ → Step ℕ
inside_of frame None = give frame
inside_of frame (Some region) = open_fields frame region

-- The frame inside of what an access of a with statement stands for. If that is no record, names are looked up as
-- outside of the statement.
unfoldable pub inside_access : ℕ → AccessTree → Step ℕ
inside_access frame a = do
  t ← access_type frame a
  region ← look (λ k. fields_in (type_at k t))
  inside_of frame region

abbrev pub inside_another : ℕ → NextAccessTree → Step ℕ
inside_another frame n = inside_access frame n.access

-- ---- statements

abbrev mutual
  pub statement_uses : ℕ → StatementTree → Step (Unit {0})
  statement_uses frame (tree.a_statement label p) = plain_uses frame p

  -- Labels are no names.
  pub plain_uses : ℕ → PlainTree → Step (Unit {0})
  plain_uses frame tree.an_empty = give tt
  plain_uses frame (tree.an_assignment a) = assignment_uses frame a
  plain_uses frame (tree.a_procedure_call name actuals) = do
    _ ← name_use frame name
    actuals_uses frame actuals
  plain_uses frame (tree.a_goto word label) = give tt
  plain_uses frame (tree.a_compound c) = compound_uses frame c
  plain_uses frame (tree.an_if x) = if_uses frame x
  plain_uses frame (tree.a_case x) = case_uses frame x
  plain_uses frame (tree.a_repeat x) = repeat_uses frame x
  plain_uses frame (tree.a_while word condition do_word s) = do
    _ ← expression_uses frame condition
    statement_uses frame s
  plain_uses frame (tree.a_for word name becomes initial direction last do_word s) = do
    _ ← name_use frame name
    _ ← expression_uses frame initial
    _ ← expression_uses frame last
    statement_uses frame s
  -- each access is seen from inside of those before it
  plain_uses frame (tree.a_with word first others do_word s) = do
    inner ← inside_access frame first
    innermost ← each inside_another inner others
    statement_uses innermost s

  -- the names that a compound statement uses, in the order of their tokens
  pub compound_uses : ℕ → CompoundTree → Step (Unit {0})
  compound_uses frame (tree.compound_statement word body last) = statements_uses frame body

  pub statements_uses : ℕ → StatementsTree → Step (Unit {0})
  statements_uses frame (tree.statement_sequence first others) = do
    _ ← statement_uses frame first
    more_statements frame others

  pub more_statements : ℕ → StatementTrees → Step (Unit {0})
  more_statements frame tree.end_of_statements = give tt
  more_statements frame (tree.more_statements semicolon s rest) = do
    _ ← statement_uses frame s
    more_statements frame rest

  pub if_uses : ℕ → IfTree → Step (Unit {0})
  if_uses frame (tree.if_statement word condition then_word s alternative) = do
    _ ← expression_uses frame condition
    _ ← statement_uses frame s
    else_uses frame alternative

  pub else_uses : ℕ → ElseTree → Step (Unit {0})
  else_uses frame tree.without_else = give tt
  else_uses frame (tree.an_else word s) = statement_uses frame s

  pub case_uses : ℕ → CaseTree → Step (Unit {0})
  case_uses frame (tree.case_statement word selector of_word first others semicolon last) = do
    _ ← expression_uses frame selector
    _ ← branch_uses frame first
    more_branches frame others

  pub branch_uses : ℕ → BranchTree → Step (Unit {0})
  branch_uses frame (tree.a_branch constants colon s) = do
    _ ← constants_uses frame constants
    statement_uses frame s

  pub more_branches : ℕ → BranchTrees → Step (Unit {0})
  more_branches frame tree.end_of_branches = give tt
  more_branches frame (tree.more_branches semicolon b rest) = do
    _ ← branch_uses frame b
    more_branches frame rest

  pub repeat_uses : ℕ → RepeatTree → Step (Unit {0})
  repeat_uses frame (tree.repeat_statement word body until_word condition) = do
    _ ← statements_uses frame body
    expression_uses frame condition

-- ---- one more of what the code holds

abbrev pub next_actual : ℕ → Unit {0} → NextActual → Step (Unit {0})
next_actual frame u n = actual_uses frame (tree.actual_tree n.actual)

abbrev pub inside_next : ℕ → NextAccess → Step ℕ
inside_next frame n = inside_access frame (access_tree n.access)

abbrev pub next_statement : ℕ → Unit {0} → NextStatement → Step (Unit {0})
next_statement frame u n = plain_uses frame (tree.plain_tree n.statement.plain)

abbrev pub next_branch : ℕ → Unit {0} → NextBranch → Step (Unit {0})
next_branch frame u n = do
  _ ← constants_uses frame (constants_tree n.branch.constants)
  plain_uses frame (tree.plain_tree n.branch.statement.plain)
