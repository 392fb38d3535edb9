-- The nodes of statements are those of their trees without memory.
use Rattle.std.proofs.Common.{◌∷◌, ◌≡◌, [], List, None, Option, Some, map, option_map, refl}
use Rattle.std.specs.Global.{Box}
use Rattle.grammar.specs.Nodes.{Node, Pair, leaf, row}
use Rattle.grammar.specs.declared.terminals.Terminal.TheVariants as k
use Rattle.pas_tree.proofs.{DenotersAgree.constants_same, ExpressionsAgree.expression_same, ExpressionsAgree.selector_same}
use Rattle.pas_tree.specs.{Operators.direction_node, declared.expressions.Access.Access, declared.expressions.Selector.Selector}
use Rattle.pas_tree.specs.Denoters as denoters
use Rattle.pas_tree.specs.ExpressionTrees as tree_expressions
use Rattle.pas_tree.specs.Expressions as expressions
use Rattle.pas_tree.specs.StatementTrees as tree_statements
use Rattle.pas_tree.specs.Statements as statements
use Rattle.pas_tree.specs.TreeNodes as node
use Rattle.pas_tree.specs.declared.statements.{Actual.Actual, Actuals.Actuals, Assignment.Assignment as AssignmentOf, NextAccess.NextAccess}
use Rattle.pas_tree.specs.declared.statements.{NextActual.NextActual, Repeat.Repeat, Repeat.Repeat' as RepeatTree', Width.Width}
use Rattle.pas_tree.specs.declared.statements.Case.{Case, Case' as CaseTree', Row_of-NextBranch, end_of-NextBranch, more_of-NextBranch}
use Rattle.pas_tree.specs.declared.statements.Compound.{Compound, Compound' as CompoundTree'}
use Rattle.pas_tree.specs.declared.statements.If.{Held-If-alternative, If, If' as IfTree', None', Some'}
use Rattle.pas_tree.specs.declared.statements.Plain.{Assignment as Assignment', Call, Case', Compound', Empty, For', Goto, If', Plain, Repeat', While', With'}
use Rattle.pas_tree.specs.declared.statements.Statements.{Row_of-NextStatement, Statements, Statements', end_of-NextStatement, more_of-NextStatement}

selectors_items_same : (xs : List Selector) → row (map expressions.selector_node xs) ≡ node.selectors_node (tree_expressions.selector_trees xs)
selectors_items_same [] = refl
selectors_items_same (x ∷ xs) = λ i. Pair (selector_same x i) (selectors_items_same xs i)

pub access_same : (x : Access) → expressions.access_node x ≡ node.access_node (tree_expressions.access_tree x)
access_same x = λ i. Pair (leaf k.Name x.name) (selectors_items_same x.selectors.items i)

width_same : (x : Option Width) → statements.width_node x ≡ node.width_node (option_map tree_statements.width_tree x)
width_same None = refl
width_same (Some w) = λ i. Pair (leaf k.Colon w.colon) (expression_same w.width i)

actual_same : (x : Actual) → statements.actual_node x ≡ node.actual_node (tree_statements.actual_tree x)
actual_same x = λ i. Pair (expression_same x.expression i) (width_same x.width i)

-- a row of what a view leaves
pub row_same : {A B : Type 0} (view : A → B) (f : A → Node) (g : B → Node) → ((x : A) → f x ≡ g (view x)) → (xs : List A)
    → row (map f xs) ≡ row (map g (map view xs))
row_same view f g same [] = refl
row_same view f g same (x ∷ xs) = λ i. Pair (same x i) (row_same view f g same xs i)

next_actual_same : (x : NextActual) → statements.next_actual_node x ≡ node.next_actual_node (tree_statements.next_actual_tree x)
next_actual_same x = λ i. Pair (leaf k.Comma x.comma) (actual_same x.actual i)

actuals_same : (x : Actuals) → statements.actuals_node x ≡ node.actuals_node (tree_statements.actuals_tree x)
actuals_same x =
    λ i. Pair (leaf k.LeftParen x.«open») (Pair (actual_same x.first i)
    (Pair (row_same tree_statements.next_actual_tree statements.next_actual_node node.next_actual_node next_actual_same x.others.items i)
    (leaf k.RightParen x.close)))

call_same : (x : Option (Box Actuals)) → statements.call_node x ≡ node.call_node (tree_statements.held_actuals_tree x)
call_same None = refl
call_same (Some a) = actuals_same a.value

assignment_same : (x : AssignmentOf) → statements.assignment_node x ≡ node.assignment_node (tree_statements.assignment_tree x)
assignment_same x =
    λ i. Pair (leaf k.Name x.target.name) (Pair (selectors_items_same x.target.selectors.items i)
    (Pair (leaf k.Becomes x.becomes) (expression_same x.value i)))

next_access_same : (x : NextAccess) → statements.next_access_node x ≡ node.next_access_node (tree_statements.next_access_tree x)
next_access_same x = λ i. Pair (leaf k.Comma x.comma) (access_same x.access i)

accesses_same : (xs : List NextAccess) → row (map statements.next_access_node xs) ≡ row (map node.next_access_node (map tree_statements.next_access_tree xs))
accesses_same xs = row_same tree_statements.next_access_tree statements.next_access_node node.next_access_node next_access_same xs

mutual
  plain_same : (x : Plain) → statements.plain_node x ≡ node.plain_node (tree_statements.plain_tree x)
  plain_same Empty = refl
  plain_same (Assignment' a) = assignment_same a.value
  plain_same (Call name actuals) =
      λ i. Pair (leaf k.Name name) (call_same actuals i)
  plain_same (Goto word label) = refl
  plain_same (Compound' _ c) = compound_same c
  plain_same (If' _ i) = if_same i
  plain_same (Case' _ c) = case_same c
  plain_same (Repeat' _ r) = repeat_same r
  plain_same (While' _ word condition do_word label plain) =
      λ i. Pair (leaf k.WWhile word) (Pair (expression_same condition i) (Pair (leaf k.WDo do_word) (Pair (statements.label_node label) (plain_same plain i))))
  plain_same (For' _ word name becomes initial direction last do_word label plain) =
      λ i. Pair (leaf k.WFor word) (Pair (leaf k.Name name) (Pair (leaf k.Becomes becomes) (Pair (expression_same initial i) (Pair
      (direction_node direction) (Pair (expression_same last i) (Pair (leaf k.WDo do_word) (Pair (statements.label_node label) (plain_same plain i))))))))
  plain_same (With' _ word first others do_word label plain) =
      λ i. Pair (leaf k.WWith word) (Pair (access_same first i) (Pair (accesses_same others.items i)
      (Pair (leaf k.WDo do_word) (Pair (statements.label_node label)
      (plain_same plain i)))))

  pub compound_same : (x : Compound) → statements.compound_node x ≡ node.compound_node (tree_statements.compound_tree x)
  compound_same (CompoundTree' begin statements end) =
      λ i. Pair (leaf k.WBegin begin) (Pair (statements_same statements i) (leaf k.WEnd end))

  statements_same : (x : Statements) → statements.statements_node x ≡ node.statements_node (tree_statements.statements_tree x)
  statements_same (Statements' label plain _ others) =
      λ i. Pair (Pair (statements.label_node label) (plain_same plain i)) (more_statements_same others i)

  more_statements_same : {m : _} (x : Row_of-NextStatement m) → statements.more_statements_node x ≡ node.more_statements_node
      (tree_statements.statement_row x)
  more_statements_same end_of-NextStatement = refl
  more_statements_same (more_of-NextStatement semicolon label plain rest) =
      λ i. Pair (Pair (leaf k.Semicolon semicolon) (Pair (statements.label_node label) (plain_same plain i))) (more_statements_same rest i)

  if_same : (x : If) → statements.if_node x ≡ node.if_node (tree_statements.if_tree x)
  if_same (IfTree' word condition then label plain alternative) =
      λ i. Pair (leaf k.WIf word) (Pair (expression_same condition i) (Pair (leaf k.WThen then) (Pair (Pair (statements.label_node label) (plain_same plain i))
      (else_same alternative i))))

  else_same : (x : Held-If-alternative) → statements.else_node x ≡ node.else_node (tree_statements.else_tree x)
  else_same None' = refl
  else_same (Some' word label plain) =
      λ i. Pair (leaf k.WElse word) (Pair (statements.label_node label) (plain_same plain i))

  case_same : (x : Case) → statements.case_node x ≡ node.case_node (tree_statements.case_tree x)
  case_same (CaseTree' word selector of constants colon label plain _ others semicolon end) =
      λ i. Pair (leaf k.WCase word) (Pair (expression_same selector i) (Pair (leaf k.WOf of) (Pair (Pair (constants_same constants i) (Pair
      (leaf k.Colon colon) (Pair (statements.label_node label) (plain_same plain i)))) (Pair (branches_same others (denoters.last_semicolon_node semicolon)
      (denoters.last_semicolon_node semicolon) refl i) (leaf k.WEnd end)))))

  branches_same : {m : _} (x : Row_of-NextBranch m) (y z : Node) → y ≡ z → statements.branches_node x y ≡ node.branches_node (tree_statements.branch_row x) z
  branches_same end_of-NextBranch y z e = e
  branches_same (more_of-NextBranch semicolon constants colon label plain rest) y z e =
      λ i. Pair (leaf k.Semicolon semicolon) (Pair (Pair (constants_same constants i) (Pair (leaf k.Colon colon) (Pair (statements.label_node label)
      (plain_same plain i)))) (branches_same rest y z e i))

  repeat_same : (x : Repeat) → statements.repeat_node x ≡ node.repeat_node (tree_statements.repeat_tree x)
  repeat_same (RepeatTree' word statements until condition) =
      λ i. Pair (leaf k.WRepeat word) (Pair (statements_same statements i) (Pair (leaf k.WUntil until) (expression_same condition i)))
