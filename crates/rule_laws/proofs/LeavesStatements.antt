-- What the steps of `Rattle.decl_checker.specs.Statements` leave at all tokens: they put no row.
use Rattle.std.proofs.Common.{ℕ, None, Option, Some}
use Rattle.pas_tree.specs.{ExpressionTrees.AccessTree, TreeNodes.compound_node}
use Rattle.pas_tree.specs.StatementTrees.{ActualTree, ActualsTree, AssignmentTree, BranchTree, BranchTrees, CaseTree, CompoundTree, ElseTree, IfTree}
use Rattle.pas_tree.specs.StatementTrees.{NextAccessTree, NextActualTree, PlainTree, RepeatTree, StatementTree, StatementTrees, StatementsTree, WidthTree}
use Rattle.pas_tree.specs.StatementTrees as tree
use Rattle.check_steps.specs.Known.{frame_at, type_at}
use Rattle.decl_checker.specs.Statements.{actual_uses, actuals_uses, another_actual, assignment_uses, branch_uses, case_uses, compound_uses, else_uses}
use Rattle.decl_checker.specs.Statements.{fields_in, if_uses, inside_access, inside_another, inside_of, more_branches, more_statements, one_more_with}
use Rattle.decl_checker.specs.Statements.{open_fields, plain_uses, repeat_uses, some_actuals_uses, statement_uses, statements_uses, width_uses}
use Rattle.rule_laws.proofs.{Every.Every, LeavesAnywhere.any_each-leaves, LeavesAnywhere.constants_any-leaves}
use Rattle.rule_laws.proofs.Leaves.{Leaves, bind-leaves, give-leaves, look-leaves, open_frame-leaves}
use Rattle.rule_laws.proofs.LeavesAccesses.{access_type-leaves, access_uses-leaves, expression_uses-leaves, name_use-leaves}

pub assignment_uses-leaves : {Q : ℕ → Type 0} (frame : ℕ) (a : AssignmentTree) → Leaves Q (assignment_uses frame a)
unfolding assignment_uses
assignment_uses-leaves frame a = bind-leaves (access_uses-leaves frame a.target) (λ _. expression_uses-leaves frame a.value)

pub width_uses-leaves : {Q : ℕ → Type 0} (frame : ℕ) (width : Option WidthTree) → Leaves Q (width_uses frame width)
width_uses-leaves frame None = give-leaves tt
width_uses-leaves frame (Some w) = expression_uses-leaves frame w.width

pub actual_uses-leaves : {Q : ℕ → Type 0} (frame : ℕ) (a : ActualTree) → Leaves Q (actual_uses frame a)
unfolding actual_uses
actual_uses-leaves frame a = bind-leaves (expression_uses-leaves frame a.expression) (λ _. width_uses-leaves frame a.width)

pub another_actual-leaves : {Q : ℕ → Type 0} (frame : ℕ) (u : Unit {0}) (n : NextActualTree) → Leaves Q (another_actual frame u n)
another_actual-leaves frame u n = actual_uses-leaves frame n.actual

pub some_actuals_uses-leaves : {Q : ℕ → Type 0} (frame : ℕ) (a : ActualsTree) → Leaves Q (some_actuals_uses frame a)
unfolding some_actuals_uses
some_actuals_uses-leaves frame a = bind-leaves (actual_uses-leaves frame a.first) (λ _. any_each-leaves (another_actual frame) (λ a x.
    another_actual-leaves frame a x) tt a.others)

pub actuals_uses-leaves : {Q : ℕ → Type 0} (frame : ℕ) (actuals : Option ActualsTree) → Leaves Q (actuals_uses frame actuals)
actuals_uses-leaves frame None = give-leaves tt
actuals_uses-leaves frame (Some a) = some_actuals_uses-leaves frame a

pub open_fields-leaves : {Q : ℕ → Type 0} (frame : ℕ) (region : ℕ) → Leaves Q (open_fields frame region)
unfolding open_fields
open_fields-leaves frame region = bind-leaves (look-leaves (λ k. frame_at k frame)) (λ outer.
    open_frame-leaves (record { region = region; outer = Some frame; level = outer.level; withs = one_more_with outer.withs }))

pub inside_of-leaves : {Q : ℕ → Type 0} (frame : ℕ) (x : Option ℕ) → Leaves Q (inside_of frame x)
inside_of-leaves frame None = give-leaves frame
inside_of-leaves frame (Some region) = open_fields-leaves frame region

pub inside_access-leaves : {Q : ℕ → Type 0} (frame : ℕ) (a : AccessTree) → Leaves Q (inside_access frame a)
unfolding inside_access
inside_access-leaves frame a = bind-leaves (access_type-leaves frame a) (λ t. bind-leaves (look-leaves (λ k. fields_in (type_at k t))) (λ region.
    inside_of-leaves frame region))

pub inside_another-leaves : {Q : ℕ → Type 0} (frame : ℕ) (n : NextAccessTree) → Leaves Q (inside_another frame n)
inside_another-leaves frame n = inside_access-leaves frame n.access

mutual
  pub plain_uses-leaves : {Q : ℕ → Type 0} (frame : ℕ) (plain : PlainTree) → Leaves Q (plain_uses frame plain)
  plain_uses-leaves frame tree.an_empty = give-leaves tt
  plain_uses-leaves frame (tree.an_assignment a) = assignment_uses-leaves frame a
  plain_uses-leaves frame (tree.a_procedure_call name actuals) =
      bind-leaves (name_use-leaves frame name) (λ _. actuals_uses-leaves frame actuals)
  plain_uses-leaves frame (tree.a_goto word label) = give-leaves tt
  plain_uses-leaves frame (tree.a_compound c) = compound_any-leaves frame c
  plain_uses-leaves frame (tree.an_if i) = if_uses-leaves frame i
  plain_uses-leaves frame (tree.a_case c) = case_uses-leaves frame c
  plain_uses-leaves frame (tree.a_repeat r) = repeat_uses-leaves frame r
  plain_uses-leaves frame (tree.a_while word condition do_word s) =
      bind-leaves (expression_uses-leaves frame condition) (λ _. statement_uses-leaves frame s)
  plain_uses-leaves frame (tree.a_for word name becomes initial direction last do_word s) =
      bind-leaves (name_use-leaves frame name) (λ _. bind-leaves (expression_uses-leaves frame initial) (λ _.
      bind-leaves (expression_uses-leaves frame last) (λ _. statement_uses-leaves frame s)))
  plain_uses-leaves frame (tree.a_with word first others do_word s) =
      bind-leaves (inside_access-leaves frame first) (λ inner.
      bind-leaves (any_each-leaves inside_another (λ a x. inside_another-leaves a x) inner others) (λ innermost.
      statement_uses-leaves innermost s))

  pub statement_uses-leaves : {Q : ℕ → Type 0} (frame : ℕ) (s : StatementTree) → Leaves Q (statement_uses frame s)
  statement_uses-leaves frame (tree.a_statement label p) = plain_uses-leaves frame p

  pub compound_any-leaves : {Q : ℕ → Type 0} (frame : ℕ) (compound : CompoundTree) → Leaves Q (compound_uses frame compound)
  compound_any-leaves frame (tree.compound_statement begin body end) = statements_uses-leaves frame body

  pub statements_uses-leaves : {Q : ℕ → Type 0} (frame : ℕ) (statements : StatementsTree) → Leaves Q (statements_uses frame statements)
  statements_uses-leaves frame (tree.statement_sequence first others) =
      bind-leaves (statement_uses-leaves frame first) (λ _. more_statements-leaves frame others)

  pub more_statements-leaves : {Q : ℕ → Type 0} (frame : ℕ) (rest : StatementTrees) → Leaves Q (more_statements frame rest)
  more_statements-leaves frame tree.end_of_statements = give-leaves tt
  more_statements-leaves frame (tree.more_statements semicolon s rest) =
      bind-leaves (statement_uses-leaves frame s) (λ _. more_statements-leaves frame rest)

  pub if_uses-leaves : {Q : ℕ → Type 0} (frame : ℕ) (if' : IfTree) → Leaves Q (if_uses frame if')
  if_uses-leaves frame (tree.if_statement word condition then_word s alternative) =
      bind-leaves (expression_uses-leaves frame condition) (λ _. bind-leaves (statement_uses-leaves frame s) (λ _.
      else_uses-leaves frame alternative))

  pub else_uses-leaves : {Q : ℕ → Type 0} (frame : ℕ) (alternative : ElseTree) → Leaves Q (else_uses frame alternative)
  else_uses-leaves frame tree.without_else = give-leaves tt
  else_uses-leaves frame (tree.an_else word s) = statement_uses-leaves frame s

  pub case_uses-leaves : {Q : ℕ → Type 0} (frame : ℕ) (case' : CaseTree) → Leaves Q (case_uses frame case')
  case_uses-leaves frame (tree.case_statement word selector of_word first others semicolon end) =
      bind-leaves (expression_uses-leaves frame selector) (λ _. bind-leaves (branch_uses-leaves frame first) (λ _.
      more_branches-leaves frame others))

  pub branch_uses-leaves : {Q : ℕ → Type 0} (frame : ℕ) (branch : BranchTree) → Leaves Q (branch_uses frame branch)
  branch_uses-leaves frame (tree.a_branch constants colon s) =
      bind-leaves (constants_any-leaves frame constants) (λ _. statement_uses-leaves frame s)

  pub more_branches-leaves : {Q : ℕ → Type 0} (frame : ℕ) (rest : BranchTrees) → Leaves Q (more_branches frame rest)
  more_branches-leaves frame tree.end_of_branches = give-leaves tt
  more_branches-leaves frame (tree.more_branches semicolon branch rest) =
      bind-leaves (branch_uses-leaves frame branch) (λ _. more_branches-leaves frame rest)

  pub repeat_uses-leaves : {Q : ℕ → Type 0} (frame : ℕ) (repeat : RepeatTree) → Leaves Q (repeat_uses frame repeat)
  repeat_uses-leaves frame (tree.repeat_statement word body until_word condition) =
      bind-leaves (statements_uses-leaves frame body) (λ _. expression_uses-leaves frame condition)

pub compound_uses-leaves : {Q : ℕ → Type 0} (frame : ℕ) (compound : CompoundTree) → Every Q (compound_node compound)
    → Leaves Q (compound_uses frame compound)
compound_uses-leaves frame compound compound-in = compound_any-leaves frame compound
