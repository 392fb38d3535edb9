-- What the steps of `Rattle.decl_checker.specs.Statements` keep.
use Rattle.std.proofs.Common.{ℕ, Bool, None, Option, Some, false}
use Rattle.grammar.specs.Nodes.{Node}
use Rattle.pas_tree.specs.{Denoters.last_semicolon_node, ExpressionTrees.AccessTree, TreeNodes.statements_node, TreeNodes.width_node}
use Rattle.pas_tree.specs.StatementTrees.{ActualTree, ActualsTree, AssignmentTree, BranchTree, BranchTrees, CaseTree, CompoundTree, ElseTree, IfTree}
use Rattle.pas_tree.specs.StatementTrees.{NextAccessTree, NextActualTree, PlainTree, RepeatTree, StatementTree, StatementTrees, StatementsTree, WidthTree}
use Rattle.pas_tree.specs.StatementTrees as tree
use Rattle.pas_tree.specs.TreeNodes.{access_node, actual_node, actuals_node, assignment_node, branch_node, branches_node, call_node, case_node, compound_node}
use Rattle.pas_tree.specs.TreeNodes.{else_node, if_node, more_statements_node, next_access_node, next_actual_node, plain_node, repeat_node, statement_node}
use Rattle.check_steps.specs.Known.{frame_at, type_at}
use Rattle.decl_checker.specs.Statements.{actual_uses, actuals_uses, another_actual, assignment_uses, branch_uses, case_uses, compound_uses, else_uses}
use Rattle.decl_checker.specs.Statements.{fields_in, if_uses, inside_access, inside_another, inside_of, more_branches, more_statements, one_more_with}
use Rattle.decl_checker.specs.Statements.{open_fields, plain_uses, repeat_uses, some_actuals_uses, statement_uses, statements_uses, width_uses}
use Rattle.code_checker.proofs.{DenoterVariants.constants_uses-holds, Parts.compound-in, Within.Within}
use Rattle.code_checker.proofs.DeclareAccesses.{access_type-holds, access_uses-holds, expression_uses-holds, name_use-holds}
use Rattle.code_checker.proofs.Steps.{Holds, bind-holds, each-holds, give-holds, look-holds, open_frame-holds}

pub assignment_uses-holds : {size : ℕ} (frame : ℕ) (a : AssignmentTree) → Within size (assignment_node a) → Holds size false (assignment_uses frame a)
unfolding assignment_uses
assignment_uses-holds frame a a-in = bind-holds (access_uses-holds frame a.target (a-in.0, a-in.1.0)) (λ _. expression_uses-holds frame a.value a-in.1.1.1)

pub width_uses-holds : {size : ℕ} (frame : ℕ) (width : Option WidthTree) → Within size (width_node width) → Holds size false (width_uses frame width)
width_uses-holds frame None width-in = give-holds tt
width_uses-holds frame (Some w) width-in = expression_uses-holds frame w.width width-in.1

pub actual_uses-holds : {size : ℕ} (frame : ℕ) (a : ActualTree) → Within size (actual_node a) → Holds size false (actual_uses frame a)
unfolding actual_uses
actual_uses-holds frame a a-in = bind-holds (expression_uses-holds frame a.expression a-in.0) (λ _. width_uses-holds frame a.width a-in.1)

pub another_actual-holds : {size : ℕ} (frame : ℕ) (u : Unit {0}) (n : NextActualTree) → Within size (next_actual_node n)
    → Holds size false (another_actual frame u n)
another_actual-holds frame u n n-in = actual_uses-holds frame n.actual n-in.1

pub some_actuals_uses-holds : {size : ℕ} (frame : ℕ) (a : ActualsTree) → Within size (actuals_node a) → Holds size false (some_actuals_uses frame a)
unfolding some_actuals_uses
some_actuals_uses-holds frame a a-in = bind-holds (actual_uses-holds frame a.first a-in.1.0) (λ _. each-holds (another_actual frame) next_actual_node (λ a x h.
    another_actual-holds frame a x h) tt a.others a-in.1.1.0)

pub actuals_uses-holds : {size : ℕ} (frame : ℕ) (actuals : Option ActualsTree) → Within size (call_node actuals)
    → Holds size false (actuals_uses frame actuals)
actuals_uses-holds frame None actuals-in = give-holds tt
actuals_uses-holds frame (Some a) actuals-in = some_actuals_uses-holds frame a actuals-in

pub open_fields-holds : {size : ℕ} {later : Bool} (frame : ℕ) (region : ℕ) → Holds size later (open_fields frame region)
unfolding open_fields
open_fields-holds frame region = bind-holds (look-holds (λ k. frame_at k frame)) (λ outer.
    open_frame-holds (record { region = region; outer = Some frame; level = outer.level; withs = one_more_with outer.withs }))

pub inside_of-holds : {size : ℕ} {later : Bool} (frame : ℕ) (x : Option ℕ) → Holds size later (inside_of frame x)
inside_of-holds frame None = give-holds frame
inside_of-holds frame (Some region) = open_fields-holds frame region

pub inside_access-holds : {size : ℕ} (frame : ℕ) (a : AccessTree) → Within size (access_node a) → Holds size false (inside_access frame a)
unfolding inside_access
inside_access-holds frame a a-in = bind-holds (access_type-holds frame a a-in) (λ t. bind-holds (look-holds (λ k. fields_in (type_at k t))) (λ region.
    inside_of-holds frame region))

pub inside_another-holds : {size : ℕ} (frame : ℕ) (n : NextAccessTree) → Within size (next_access_node n) → Holds size false (inside_another frame n)
inside_another-holds frame n n-in = inside_access-holds frame n.access n-in.1

mutual
  pub plain_uses-holds : {size : ℕ} (frame : ℕ) (plain : PlainTree) → Within size (plain_node plain) → Holds size false (plain_uses frame plain)
  plain_uses-holds frame tree.an_empty plain-in = give-holds tt
  plain_uses-holds frame (tree.an_assignment a) plain-in = assignment_uses-holds frame a plain-in
  plain_uses-holds frame (tree.a_procedure_call name actuals) plain-in =
      bind-holds (name_use-holds frame name plain-in.0) (λ _. actuals_uses-holds frame actuals plain-in.1)
  plain_uses-holds frame (tree.a_goto word label) plain-in = give-holds tt
  plain_uses-holds frame (tree.a_compound c) plain-in = compound_uses-holds frame c plain-in
  plain_uses-holds frame (tree.an_if i) plain-in = if_uses-holds frame i plain-in
  plain_uses-holds frame (tree.a_case c) plain-in = case_uses-holds frame c plain-in
  plain_uses-holds frame (tree.a_repeat r) plain-in = repeat_uses-holds frame r plain-in
  plain_uses-holds frame (tree.a_while word condition do_word s) plain-in =
      bind-holds (expression_uses-holds frame condition plain-in.1.0) (λ _. statement_uses-holds frame s plain-in.1.1.1)
  plain_uses-holds frame (tree.a_for word name becomes initial direction last do_word s) plain-in =
      bind-holds (name_use-holds frame name plain-in.1.0) (λ _. bind-holds (expression_uses-holds frame initial plain-in.1.1.1.0) (λ _.
      bind-holds (expression_uses-holds frame last plain-in.1.1.1.1.1.0) (λ _. statement_uses-holds frame s plain-in.1.1.1.1.1.1.1)))
  plain_uses-holds frame (tree.a_with word first others do_word s) plain-in =
      bind-holds (inside_access-holds frame first plain-in.1.0) (λ inner.
      bind-holds (each-holds inside_another next_access_node (λ a x h. inside_another-holds a x h) inner others plain-in.1.1.0) (λ innermost.
      statement_uses-holds innermost s plain-in.1.1.1.1))

  pub statement_uses-holds : {size : ℕ} (frame : ℕ) (s : StatementTree) → Within size (statement_node s) → Holds size false (statement_uses frame s)
  statement_uses-holds frame (tree.a_statement label p) s-in = plain_uses-holds frame p s-in.1

  pub compound_uses-holds : {size : ℕ} (frame : ℕ) (compound : CompoundTree) → Within size (compound_node compound)
      → Holds size false (compound_uses frame compound)
  compound_uses-holds frame (tree.compound_statement begin body end) compound-in = statements_uses-holds frame body compound-in.1.0

  pub statements_uses-holds : {size : ℕ} (frame : ℕ) (statements : StatementsTree) → Within size (statements_node statements)
      → Holds size false (statements_uses frame statements)
  statements_uses-holds frame (tree.statement_sequence first others) statements-in =
      bind-holds (statement_uses-holds frame first statements-in.0) (λ _. more_statements-holds frame others statements-in.1)

  pub more_statements-holds : {size : ℕ} (frame : ℕ) (rest : StatementTrees) → Within size (more_statements_node rest)
      → Holds size false (more_statements frame rest)
  more_statements-holds frame tree.end_of_statements rest-in = give-holds tt
  more_statements-holds frame (tree.more_statements semicolon s rest) rest-in =
      bind-holds (statement_uses-holds frame s rest-in.0.1) (λ _. more_statements-holds frame rest rest-in.1)

  pub if_uses-holds : {size : ℕ} (frame : ℕ) (if' : IfTree) → Within size (if_node if') → Holds size false (if_uses frame if')
  if_uses-holds frame (tree.if_statement word condition then_word s alternative) if-in =
      bind-holds (expression_uses-holds frame condition if-in.1.0) (λ _. bind-holds (statement_uses-holds frame s if-in.1.1.1.0) (λ _.
      else_uses-holds frame alternative if-in.1.1.1.1))

  pub else_uses-holds : {size : ℕ} (frame : ℕ) (alternative : ElseTree) → Within size (else_node alternative)
      → Holds size false (else_uses frame alternative)
  else_uses-holds frame tree.without_else alternative-in = give-holds tt
  else_uses-holds frame (tree.an_else word s) alternative-in = statement_uses-holds frame s alternative-in.1

  pub case_uses-holds : {size : ℕ} (frame : ℕ) (case' : CaseTree) → Within size (case_node case') → Holds size false (case_uses frame case')
  case_uses-holds frame (tree.case_statement word selector of_word first others semicolon end) case-in =
      bind-holds (expression_uses-holds frame selector case-in.1.0) (λ _. bind-holds (branch_uses-holds frame first case-in.1.1.1.0) (λ _.
      more_branches-holds frame others (last_semicolon_node semicolon) case-in.1.1.1.1.0))

  pub branch_uses-holds : {size : ℕ} (frame : ℕ) (branch : BranchTree) → Within size (branch_node branch) → Holds size false (branch_uses frame branch)
  branch_uses-holds frame (tree.a_branch constants colon s) branch-in =
      bind-holds (constants_uses-holds frame constants branch-in.0) (λ _. statement_uses-holds frame s branch-in.1.1)

  pub more_branches-holds : {size : ℕ} (frame : ℕ) (rest : BranchTrees) (end : Node) → Within size (branches_node rest end)
      → Holds size false (more_branches frame rest)
  more_branches-holds frame tree.end_of_branches end rest-in = give-holds tt
  more_branches-holds frame (tree.more_branches semicolon branch rest) end rest-in =
      bind-holds (branch_uses-holds frame branch rest-in.1.0) (λ _. more_branches-holds frame rest end rest-in.1.1)

  pub repeat_uses-holds : {size : ℕ} (frame : ℕ) (repeat : RepeatTree) → Within size (repeat_node repeat) → Holds size false (repeat_uses frame repeat)
  repeat_uses-holds frame (tree.repeat_statement word body until_word condition) repeat-in =
      bind-holds (statements_uses-holds frame body repeat-in.1.0) (λ _. expression_uses-holds frame condition repeat-in.1.1.1)
