-- What the steps of `Rattle.decl_checker.specs.Statements` leave as it was.
use Rattle.std.proofs.Common.{ℕ, None, Option, Some}
use Rattle.pas_tree.specs.{BlockTrees.RoutineTree, ExpressionTrees.AccessTree}
use Rattle.pas_tree.specs.StatementTrees.{ActualTree, ActualsTree, AssignmentTree, BranchTree, BranchTrees, CaseTree, CompoundTree, ElseTree, IfTree}
use Rattle.pas_tree.specs.StatementTrees.{NextAccessTree, NextActualTree, PlainTree, RepeatTree, StatementTree, StatementTrees, StatementsTree, WidthTree}
use Rattle.pas_tree.specs.StatementTrees as tree
use Rattle.check_steps.specs.Known.{Known, frame_at, type_at}
use Rattle.decl_checker.specs.Statements.{actual_uses, actuals_uses, another_actual, assignment_uses, branch_uses, case_uses, compound_uses, else_uses}
use Rattle.decl_checker.specs.Statements.{fields_in, if_uses, inside_access, inside_another, inside_of, more_branches, more_statements, one_more_with}
use Rattle.decl_checker.specs.Statements.{open_fields, plain_uses, repeat_uses, some_actuals_uses, statement_uses, statements_uses, width_uses}
use Rattle.rule_laws.proofs.{Lasting.Lasting, Lasting.each-lasts, Lasting.open_frame-lasts, LastsVariants.constants_uses-lasts}
use Rattle.rule_laws.proofs.Keeping.{Keeps, bind-keeps, give-keeps, look-keeps}
use Rattle.rule_laws.proofs.LastsAccesses.{access_type-lasts, access_uses-lasts, expression_uses-lasts, name_use-lasts}

pub assignment_uses-lasts : {G : RoutineTree → Type 0} {I : Known → Type 0} (kept : Lasting G I) (frame : ℕ) (a : AssignmentTree)
    → Keeps I (assignment_uses frame a)
unfolding assignment_uses
assignment_uses-lasts kept frame a = bind-keeps (access_uses-lasts kept frame a.target) (λ _. expression_uses-lasts kept frame a.value)

pub width_uses-lasts : {G : RoutineTree → Type 0} {I : Known → Type 0} (kept : Lasting G I) (frame : ℕ) (width : Option WidthTree)
    → Keeps I (width_uses frame width)
width_uses-lasts kept frame None = give-keeps tt
width_uses-lasts kept frame (Some w) = expression_uses-lasts kept frame w.width

pub actual_uses-lasts : {G : RoutineTree → Type 0} {I : Known → Type 0} (kept : Lasting G I) (frame : ℕ) (a : ActualTree) → Keeps I (actual_uses frame a)
unfolding actual_uses
actual_uses-lasts kept frame a = bind-keeps (expression_uses-lasts kept frame a.expression) (λ _. width_uses-lasts kept frame a.width)

pub another_actual-lasts : {G : RoutineTree → Type 0} {I : Known → Type 0} (kept : Lasting G I) (frame : ℕ) (u : Unit {0}) (n : NextActualTree)
    → Keeps I (another_actual frame u n)
another_actual-lasts kept frame u n = actual_uses-lasts kept frame n.actual

pub some_actuals_uses-lasts : {G : RoutineTree → Type 0} {I : Known → Type 0} (kept : Lasting G I) (frame : ℕ) (a : ActualsTree)
    → Keeps I (some_actuals_uses frame a)
unfolding some_actuals_uses
some_actuals_uses-lasts kept frame a = bind-keeps (actual_uses-lasts kept frame a.first)
    (λ _. each-lasts (another_actual frame) (λ a x. another_actual-lasts kept frame a x) tt a.others)

pub actuals_uses-lasts : {G : RoutineTree → Type 0} {I : Known → Type 0} (kept : Lasting G I) (frame : ℕ) (actuals : Option ActualsTree)
    → Keeps I (actuals_uses frame actuals)
actuals_uses-lasts kept frame None = give-keeps tt
actuals_uses-lasts kept frame (Some a) = some_actuals_uses-lasts kept frame a

pub open_fields-lasts : {G : RoutineTree → Type 0} {I : Known → Type 0} (kept : Lasting G I) (frame region : ℕ) → Keeps I (open_fields frame region)
unfolding open_fields
open_fields-lasts kept frame region = bind-keeps (look-keeps (λ k. frame_at k frame))
    (λ outer. open_frame-lasts kept (record { region = region; outer = Some frame; level = outer.level; withs = one_more_with outer.withs }))

pub inside_of-lasts : {G : RoutineTree → Type 0} {I : Known → Type 0} (kept : Lasting G I) (frame : ℕ) (x : Option ℕ) → Keeps I (inside_of frame x)
inside_of-lasts kept frame None = give-keeps frame
inside_of-lasts kept frame (Some region) = open_fields-lasts kept frame region

pub inside_access-lasts : {G : RoutineTree → Type 0} {I : Known → Type 0} (kept : Lasting G I) (frame : ℕ) (a : AccessTree) → Keeps I (inside_access frame a)
unfolding inside_access
inside_access-lasts kept frame a = bind-keeps (access_type-lasts kept frame a)
    (λ t. bind-keeps (look-keeps (λ k. fields_in (type_at k t))) (λ region. inside_of-lasts kept frame region))

pub inside_another-lasts : {G : RoutineTree → Type 0} {I : Known → Type 0} (kept : Lasting G I) (frame : ℕ) (n : NextAccessTree)
    → Keeps I (inside_another frame n)
inside_another-lasts kept frame n = inside_access-lasts kept frame n.access

mutual
  pub plain_uses-lasts : {G : RoutineTree → Type 0} {I : Known → Type 0} (kept : Lasting G I) (frame : ℕ) (plain : PlainTree) → Keeps I (plain_uses frame plain)
  plain_uses-lasts kept frame tree.an_empty = give-keeps tt
  plain_uses-lasts kept frame (tree.an_assignment a) = assignment_uses-lasts kept frame a
  plain_uses-lasts kept frame (tree.a_procedure_call name actuals) = bind-keeps (name_use-lasts kept frame name) (λ _. actuals_uses-lasts kept frame actuals)
  plain_uses-lasts kept frame (tree.a_goto word label) = give-keeps tt
  plain_uses-lasts kept frame (tree.a_compound c) = compound_uses-lasts kept frame c
  plain_uses-lasts kept frame (tree.an_if i) = if_uses-lasts kept frame i
  plain_uses-lasts kept frame (tree.a_case c) = case_uses-lasts kept frame c
  plain_uses-lasts kept frame (tree.a_repeat r) = repeat_uses-lasts kept frame r
  plain_uses-lasts kept frame (tree.a_while word condition do_word s) =
      bind-keeps (expression_uses-lasts kept frame condition) (λ _. statement_uses-lasts kept frame s)
  plain_uses-lasts kept frame (tree.a_for word name becomes initial direction last do_word s) =
      bind-keeps (name_use-lasts kept frame name) (λ _. bind-keeps (expression_uses-lasts kept frame initial)
      (λ _. bind-keeps (expression_uses-lasts kept frame last) (λ _. statement_uses-lasts kept frame s)))
  plain_uses-lasts kept frame (tree.a_with word first others do_word s) =
      bind-keeps (inside_access-lasts kept frame first) (λ inner. bind-keeps (each-lasts inside_another (λ a x. inside_another-lasts kept a x) inner others)
      (λ innermost. statement_uses-lasts kept innermost s))

  pub statement_uses-lasts : {G : RoutineTree → Type 0} {I : Known → Type 0} (kept : Lasting G I) (frame : ℕ) (s : StatementTree)
      → Keeps I (statement_uses frame s)
  statement_uses-lasts kept frame (tree.a_statement label p) = plain_uses-lasts kept frame p

  pub compound_uses-lasts : {G : RoutineTree → Type 0} {I : Known → Type 0} (kept : Lasting G I) (frame : ℕ) (compound : CompoundTree)
      → Keeps I (compound_uses frame compound)
  compound_uses-lasts kept frame (tree.compound_statement begin body end) = statements_uses-lasts kept frame body

  pub statements_uses-lasts : {G : RoutineTree → Type 0} {I : Known → Type 0} (kept : Lasting G I) (frame : ℕ) (statements : StatementsTree)
      → Keeps I (statements_uses frame statements)
  statements_uses-lasts kept frame (tree.statement_sequence first others) =
      bind-keeps (statement_uses-lasts kept frame first) (λ _. more_statements-lasts kept frame others)

  pub more_statements-lasts : {G : RoutineTree → Type 0} {I : Known → Type 0} (kept : Lasting G I) (frame : ℕ) (rest : StatementTrees)
      → Keeps I (more_statements frame rest)
  more_statements-lasts kept frame tree.end_of_statements = give-keeps tt
  more_statements-lasts kept frame (tree.more_statements semicolon s rest) =
      bind-keeps (statement_uses-lasts kept frame s) (λ _. more_statements-lasts kept frame rest)

  pub if_uses-lasts : {G : RoutineTree → Type 0} {I : Known → Type 0} (kept : Lasting G I) (frame : ℕ) (if' : IfTree) → Keeps I (if_uses frame if')
  if_uses-lasts kept frame (tree.if_statement word condition then_word s alternative) =
      bind-keeps (expression_uses-lasts kept frame condition) (λ _. bind-keeps (statement_uses-lasts kept frame s)
      (λ _. else_uses-lasts kept frame alternative))

  pub else_uses-lasts : {G : RoutineTree → Type 0} {I : Known → Type 0} (kept : Lasting G I) (frame : ℕ) (alternative : ElseTree)
      → Keeps I (else_uses frame alternative)
  else_uses-lasts kept frame tree.without_else = give-keeps tt
  else_uses-lasts kept frame (tree.an_else word s) = statement_uses-lasts kept frame s

  pub case_uses-lasts : {G : RoutineTree → Type 0} {I : Known → Type 0} (kept : Lasting G I) (frame : ℕ) (case' : CaseTree) → Keeps I (case_uses frame case')
  case_uses-lasts kept frame (tree.case_statement word selector of_word first others semicolon end) =
      bind-keeps (expression_uses-lasts kept frame selector) (λ _. bind-keeps (branch_uses-lasts kept frame first) (λ _. more_branches-lasts kept frame others))

  pub branch_uses-lasts : {G : RoutineTree → Type 0} {I : Known → Type 0} (kept : Lasting G I) (frame : ℕ) (branch : BranchTree)
      → Keeps I (branch_uses frame branch)
  branch_uses-lasts kept frame (tree.a_branch constants colon s) =
      bind-keeps (constants_uses-lasts kept frame constants) (λ _. statement_uses-lasts kept frame s)

  pub more_branches-lasts : {G : RoutineTree → Type 0} {I : Known → Type 0} (kept : Lasting G I) (frame : ℕ) (rest : BranchTrees)
      → Keeps I (more_branches frame rest)
  more_branches-lasts kept frame tree.end_of_branches = give-keeps tt
  more_branches-lasts kept frame (tree.more_branches semicolon branch rest) =
      bind-keeps (branch_uses-lasts kept frame branch) (λ _. more_branches-lasts kept frame rest)

  pub repeat_uses-lasts : {G : RoutineTree → Type 0} {I : Known → Type 0} (kept : Lasting G I) (frame : ℕ) (repeat : RepeatTree)
      → Keeps I (repeat_uses frame repeat)
  repeat_uses-lasts kept frame (tree.repeat_statement word body until_word condition) =
      bind-keeps (statements_uses-lasts kept frame body) (λ _. expression_uses-lasts kept frame condition)
