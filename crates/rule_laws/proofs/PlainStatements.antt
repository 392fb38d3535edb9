-- What the steps of `Rattle.decl_checker.specs.Statements` break.
use Rattle.std.proofs.Common.{ℕ, None, Option, Some}
use Rattle.pas_tree.specs.ExpressionTrees.{AccessTree}
use Rattle.pas_tree.specs.StatementTrees.{ActualTree, ActualsTree, AssignmentTree, BranchTree, BranchTrees, CaseTree, CompoundTree, ElseTree, IfTree}
use Rattle.pas_tree.specs.StatementTrees.{NextAccessTree, NextActualTree, PlainTree, RepeatTree, StatementTree, StatementTrees, StatementsTree, WidthTree}
use Rattle.pas_tree.specs.StatementTrees as tree
use Rattle.check_steps.specs.Known.{frame_at, type_at}
use Rattle.decl_checker.specs.Statements.{actual_uses, actuals_uses, another_actual, assignment_uses, branch_uses, case_uses, compound_uses, else_uses}
use Rattle.decl_checker.specs.Statements.{fields_in, if_uses, inside_access, inside_another, inside_of, more_branches, more_statements, one_more_with}
use Rattle.decl_checker.specs.Statements.{open_fields, plain_uses, repeat_uses, some_actuals_uses, statement_uses, statements_uses, width_uses}
use Rattle.rule_laws.proofs.Plain.{Aim, Plain, Solely, bind-solely, each-plain, give-solely, look-solely, open_frame-plain}
use Rattle.rule_laws.proofs.PlainAccesses.{access_type-plain, access_uses-plain, expression_uses-plain, name_use-plain}
use Rattle.rule_laws.proofs.PlainVariants.{constants_uses-plain}

pub assignment_uses-plain : {aim : Aim} (kept : Plain aim) (frame : ℕ) (a : AssignmentTree)
    → Solely aim (assignment_uses frame a)
unfolding assignment_uses
assignment_uses-plain kept frame a = bind-solely (access_uses-plain kept frame a.target) (λ _. expression_uses-plain kept frame a.value)

pub width_uses-plain : {aim : Aim} (kept : Plain aim) (frame : ℕ) (width : Option WidthTree)
    → Solely aim (width_uses frame width)
width_uses-plain kept frame None = give-solely tt
width_uses-plain kept frame (Some w) = expression_uses-plain kept frame w.width

pub actual_uses-plain : {aim : Aim} (kept : Plain aim) (frame : ℕ) (a : ActualTree) → Solely aim (actual_uses frame a)
unfolding actual_uses
actual_uses-plain kept frame a = bind-solely (expression_uses-plain kept frame a.expression) (λ _. width_uses-plain kept frame a.width)

pub another_actual-plain : {aim : Aim} (kept : Plain aim) (frame : ℕ) (u : Unit {0}) (n : NextActualTree)
    → Solely aim (another_actual frame u n)
another_actual-plain kept frame u n = actual_uses-plain kept frame n.actual

pub some_actuals_uses-plain : {aim : Aim} (kept : Plain aim) (frame : ℕ) (a : ActualsTree)
    → Solely aim (some_actuals_uses frame a)
unfolding some_actuals_uses
some_actuals_uses-plain kept frame a = bind-solely (actual_uses-plain kept frame a.first)
    (λ _. each-plain (another_actual frame) (λ a x. another_actual-plain kept frame a x) tt a.others)

pub actuals_uses-plain : {aim : Aim} (kept : Plain aim) (frame : ℕ) (actuals : Option ActualsTree)
    → Solely aim (actuals_uses frame actuals)
actuals_uses-plain kept frame None = give-solely tt
actuals_uses-plain kept frame (Some a) = some_actuals_uses-plain kept frame a

pub open_fields-plain : {aim : Aim} (kept : Plain aim) (frame region : ℕ) → Solely aim (open_fields frame region)
unfolding open_fields
open_fields-plain kept frame region = bind-solely (look-solely (λ k. frame_at k frame))
    (λ outer. open_frame-plain kept (record { region = region; outer = Some frame; level = outer.level; withs = one_more_with outer.withs }))

pub inside_of-plain : {aim : Aim} (kept : Plain aim) (frame : ℕ) (x : Option ℕ) → Solely aim (inside_of frame x)
inside_of-plain kept frame None = give-solely frame
inside_of-plain kept frame (Some region) = open_fields-plain kept frame region

pub inside_access-plain : {aim : Aim} (kept : Plain aim) (frame : ℕ) (a : AccessTree) → Solely aim (inside_access frame a)
unfolding inside_access
inside_access-plain kept frame a = bind-solely (access_type-plain kept frame a)
    (λ t. bind-solely (look-solely (λ k. fields_in (type_at k t))) (λ region. inside_of-plain kept frame region))

pub inside_another-plain : {aim : Aim} (kept : Plain aim) (frame : ℕ) (n : NextAccessTree)
    → Solely aim (inside_another frame n)
inside_another-plain kept frame n = inside_access-plain kept frame n.access

mutual
  pub plain_uses-plain : {aim : Aim} (kept : Plain aim) (frame : ℕ) (plain : PlainTree) → Solely aim (plain_uses frame plain)
  plain_uses-plain kept frame tree.an_empty = give-solely tt
  plain_uses-plain kept frame (tree.an_assignment a) = assignment_uses-plain kept frame a
  plain_uses-plain kept frame (tree.a_procedure_call name actuals) = bind-solely (name_use-plain kept frame name) (λ _. actuals_uses-plain kept frame actuals)
  plain_uses-plain kept frame (tree.a_goto word label) = give-solely tt
  plain_uses-plain kept frame (tree.a_compound c) = compound_uses-plain kept frame c
  plain_uses-plain kept frame (tree.an_if i) = if_uses-plain kept frame i
  plain_uses-plain kept frame (tree.a_case c) = case_uses-plain kept frame c
  plain_uses-plain kept frame (tree.a_repeat r) = repeat_uses-plain kept frame r
  plain_uses-plain kept frame (tree.a_while word condition do_word s) =
      bind-solely (expression_uses-plain kept frame condition) (λ _. statement_uses-plain kept frame s)
  plain_uses-plain kept frame (tree.a_for word name becomes initial direction last do_word s) =
      bind-solely (name_use-plain kept frame name) (λ _. bind-solely (expression_uses-plain kept frame initial)
      (λ _. bind-solely (expression_uses-plain kept frame last) (λ _. statement_uses-plain kept frame s)))
  plain_uses-plain kept frame (tree.a_with word first others do_word s) =
      bind-solely (inside_access-plain kept frame first) (λ inner. bind-solely (each-plain inside_another (λ a x. inside_another-plain kept a x) inner others)
      (λ innermost. statement_uses-plain kept innermost s))

  pub statement_uses-plain : {aim : Aim} (kept : Plain aim) (frame : ℕ) (s : StatementTree)
      → Solely aim (statement_uses frame s)
  statement_uses-plain kept frame (tree.a_statement label p) = plain_uses-plain kept frame p

  pub compound_uses-plain : {aim : Aim} (kept : Plain aim) (frame : ℕ) (compound : CompoundTree)
      → Solely aim (compound_uses frame compound)
  compound_uses-plain kept frame (tree.compound_statement begin body end) = statements_uses-plain kept frame body

  pub statements_uses-plain : {aim : Aim} (kept : Plain aim) (frame : ℕ) (statements : StatementsTree)
      → Solely aim (statements_uses frame statements)
  statements_uses-plain kept frame (tree.statement_sequence first others) =
      bind-solely (statement_uses-plain kept frame first) (λ _. more_statements-plain kept frame others)

  pub more_statements-plain : {aim : Aim} (kept : Plain aim) (frame : ℕ) (rest : StatementTrees)
      → Solely aim (more_statements frame rest)
  more_statements-plain kept frame tree.end_of_statements = give-solely tt
  more_statements-plain kept frame (tree.more_statements semicolon s rest) =
      bind-solely (statement_uses-plain kept frame s) (λ _. more_statements-plain kept frame rest)

  pub if_uses-plain : {aim : Aim} (kept : Plain aim) (frame : ℕ) (if' : IfTree) → Solely aim (if_uses frame if')
  if_uses-plain kept frame (tree.if_statement word condition then_word s alternative) =
      bind-solely (expression_uses-plain kept frame condition) (λ _. bind-solely (statement_uses-plain kept frame s)
      (λ _. else_uses-plain kept frame alternative))

  pub else_uses-plain : {aim : Aim} (kept : Plain aim) (frame : ℕ) (alternative : ElseTree)
      → Solely aim (else_uses frame alternative)
  else_uses-plain kept frame tree.without_else = give-solely tt
  else_uses-plain kept frame (tree.an_else word s) = statement_uses-plain kept frame s

  pub case_uses-plain : {aim : Aim} (kept : Plain aim) (frame : ℕ) (case' : CaseTree) → Solely aim (case_uses frame case')
  case_uses-plain kept frame (tree.case_statement word selector of_word first others semicolon end) =
      bind-solely (expression_uses-plain kept frame selector) (λ _. bind-solely (branch_uses-plain kept frame first)
      (λ _. more_branches-plain kept frame others))

  pub branch_uses-plain : {aim : Aim} (kept : Plain aim) (frame : ℕ) (branch : BranchTree)
      → Solely aim (branch_uses frame branch)
  branch_uses-plain kept frame (tree.a_branch constants colon s) =
      bind-solely (constants_uses-plain kept frame constants) (λ _. statement_uses-plain kept frame s)

  pub more_branches-plain : {aim : Aim} (kept : Plain aim) (frame : ℕ) (rest : BranchTrees)
      → Solely aim (more_branches frame rest)
  more_branches-plain kept frame tree.end_of_branches = give-solely tt
  more_branches-plain kept frame (tree.more_branches semicolon branch rest) =
      bind-solely (branch_uses-plain kept frame branch) (λ _. more_branches-plain kept frame rest)

  pub repeat_uses-plain : {aim : Aim} (kept : Plain aim) (frame : ℕ) (repeat : RepeatTree)
      → Solely aim (repeat_uses frame repeat)
  repeat_uses-plain kept frame (tree.repeat_statement word body until_word condition) =
      bind-solely (statements_uses-plain kept frame body) (λ _. expression_uses-plain kept frame condition)
