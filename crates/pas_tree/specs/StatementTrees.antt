-- Statements without memory: one constructor a rule.
use Rattle.std.specs.Prelude.{◌∷◌, [], ℕ, List, None, Option, Some, map, option_map}
use Rattle.std.specs.Global.{Box}
use Rattle.pas_tree.specs.ConstantTrees.{ConstantsTree, constants_tree}
use Rattle.pas_tree.specs.ExpressionTrees.{AccessTree, ExpressionTree, access_tree, expression_tree}
use Rattle.pas_tree.specs.declared.operators.Direction.{Direction}
use Rattle.pas_tree.specs.declared.statements.{Actual.Actual, Actuals.Actuals, Assignment.Assignment, Branch.Branch}
use Rattle.pas_tree.specs.declared.statements.{Case.more_of-NextBranch, Else.Else, Label.Label, NextAccess.NextAccess}
use Rattle.pas_tree.specs.declared.statements.{NextActual.NextActual, NextBranch.NextBranch}
use Rattle.pas_tree.specs.declared.statements.{NextStatement.NextStatement, Statement.Statement, Width.Width}
use Rattle.pas_tree.specs.declared.statements.Case.{Case, Case' as CaseOf', Row_of-NextBranch, end_of-NextBranch}
use Rattle.pas_tree.specs.declared.statements.Compound.{Compound, Compound' as CompoundOf'}
use Rattle.pas_tree.specs.declared.statements.If.{Held-If-alternative, If, If' as IfOf', None', Some'}
use Rattle.pas_tree.specs.declared.statements.Plain.{Assignment as Assignment', Call, Case', Compound', Empty, For'}
use Rattle.pas_tree.specs.declared.statements.Plain.{Goto, If', Plain, Repeat', While', With'}
use Rattle.pas_tree.specs.declared.statements.Repeat.{Repeat, Repeat' as RepeatOf'}
use Rattle.pas_tree.specs.declared.statements.Statements.{Row_of-NextStatement, Statements, Statements'}
use Rattle.pas_tree.specs.declared.statements.Statements.{end_of-NextStatement, more_of-NextStatement}

-- ---- what holds no statement

pub record NextAccessTree : Type 0 where
  pub comma : ℕ
  pub access : AccessTree

pub record AssignmentTree : Type 0 where
  pub target : AccessTree
  pub becomes : ℕ
  pub value : ExpressionTree

pub record WidthTree : Type 0 where
  pub colon : ℕ
  pub width : ExpressionTree

pub record ActualTree : Type 0 where
  pub expression : ExpressionTree
  pub width : Option WidthTree

pub record NextActualTree : Type 0 where
  pub comma : ℕ
  pub actual : ActualTree

pub record ActualsTree : Type 0 where
  pub left : ℕ
  pub first : ActualTree
  pub others : List NextActualTree
  pub right : ℕ

-- ---- statements

mutual
  pub data StatementTree : Type 0 where
    a_statement : (label : Option Label) (plain : PlainTree) → StatementTree

  pub data PlainTree : Type 0 where
    an_empty : PlainTree
    an_assignment : (assignment : AssignmentTree) → PlainTree
    a_procedure_call : (name : ℕ) (actuals : Option ActualsTree) → PlainTree
    a_goto : (word label : ℕ) → PlainTree
    a_compound : (compound : CompoundTree) → PlainTree
    an_if : (choice : IfTree) → PlainTree
    a_case : (choice : CaseTree) → PlainTree
    a_repeat : (loop : RepeatTree) → PlainTree
    a_while : (word : ℕ) (condition : ExpressionTree) (do_word : ℕ) (statement : StatementTree) → PlainTree
    a_for : (word name becomes : ℕ) (initial : ExpressionTree) (direction : Direction) (last : ExpressionTree)
        (do_word : ℕ) (statement : StatementTree) → PlainTree
    a_with : (word : ℕ) (first : AccessTree) (others : List NextAccessTree) (do_word : ℕ) (statement : StatementTree)
        → PlainTree

  pub data CompoundTree : Type 0 where
    compound_statement : (word : ℕ) (statements : StatementsTree) (last : ℕ) → CompoundTree

  pub data StatementsTree : Type 0 where
    statement_sequence : (first : StatementTree) (others : StatementTrees) → StatementsTree

  pub data StatementTrees : Type 0 where
    end_of_statements : StatementTrees
    more_statements : (semicolon : ℕ) (statement : StatementTree) (rest : StatementTrees) → StatementTrees

  pub data IfTree : Type 0 where
    if_statement : (word : ℕ) (condition : ExpressionTree) (then_word : ℕ) (statement : StatementTree)
        (alternative : ElseTree) → IfTree

  pub data ElseTree : Type 0 where
    without_else : ElseTree
    an_else : (word : ℕ) (statement : StatementTree) → ElseTree

  pub data CaseTree : Type 0 where
    case_statement : (word : ℕ) (selector : ExpressionTree) (of_word : ℕ) (first : BranchTree) (others : BranchTrees)
        (semicolon : Option ℕ) (last : ℕ) → CaseTree

  pub data BranchTree : Type 0 where
    a_branch : (constants : ConstantsTree) (colon : ℕ) (statement : StatementTree) → BranchTree

  pub data BranchTrees : Type 0 where
    end_of_branches : BranchTrees
    more_branches : (semicolon : ℕ) (branch : BranchTree) (rest : BranchTrees) → BranchTrees

  pub data RepeatTree : Type 0 where
    repeat_statement : (word : ℕ) (statements : StatementsTree) (until_word : ℕ) (condition : ExpressionTree)
        → RepeatTree

-- the statements between `begin` and `end`
abbrev pub compound_body : CompoundTree → StatementsTree
compound_body (compound_statement word body last) = body

-- ---- the views

abbrev pub next_access_tree : NextAccess → NextAccessTree
next_access_tree n = record { comma = n.comma; access = access_tree n.access }

abbrev pub assignment_tree : Assignment → AssignmentTree
assignment_tree a =
    record { target = access_tree a.target; becomes = a.becomes; value = expression_tree a.value }

abbrev pub width_tree : Width → WidthTree
width_tree w = record { colon = w.colon; width = expression_tree w.width }

abbrev pub actual_tree : Actual → ActualTree
actual_tree a = record { expression = expression_tree a.expression; width = option_map width_tree a.width }

abbrev pub next_actual_tree : NextActual → NextActualTree
next_actual_tree n = record { comma = n.comma; actual = actual_tree n.actual }

abbrev pub actuals_tree : Actuals → ActualsTree
actuals_tree a = record {
  left = a.«open»;
  first = actual_tree a.first;
  others = map next_actual_tree a.others.items;
  right = a.close;
}

abbrev pub held_actuals_tree : Option (Box Actuals) → Option ActualsTree
held_actuals_tree None = None
held_actuals_tree (Some a) = Some (actuals_tree a.value)

abbrev mutual
  pub plain_tree : Plain → PlainTree
  plain_tree Empty = an_empty
  plain_tree (Assignment' a) = an_assignment (assignment_tree a.value)
  plain_tree (Call name actuals) = a_procedure_call name (held_actuals_tree actuals)
  plain_tree (Goto word label) = a_goto word label
  plain_tree (Compound' _ c) = a_compound (compound_tree c)
  plain_tree (If' _ i) = an_if (if_tree i)
  plain_tree (Case' _ c) = a_case (case_tree c)
  plain_tree (Repeat' _ r) = a_repeat (repeat_tree r)
  plain_tree (While' _ word condition do_word label p) =
      a_while word (expression_tree condition) do_word (a_statement label (plain_tree p))
  plain_tree (For' _ word name becomes initial direction last do_word label p) =
      a_for word name becomes (expression_tree initial) direction (expression_tree last) do_word
      (a_statement label (plain_tree p))
  plain_tree (With' _ word first others do_word label p) =
      a_with word (access_tree first) (map next_access_tree others.items) do_word (a_statement label (plain_tree p))

  pub compound_tree : Compound → CompoundTree
  compound_tree (CompoundOf' begin body end) = compound_statement begin (statements_tree body) end

  pub statements_tree : Statements → StatementsTree
  statements_tree (Statements' label p _ others) =
      statement_sequence (a_statement label (plain_tree p)) (statement_row others)

  pub statement_row : {m : _} → Row_of-NextStatement m → StatementTrees
  statement_row end_of-NextStatement = end_of_statements
  statement_row (more_of-NextStatement semicolon label p rest) =
      more_statements semicolon (a_statement label (plain_tree p)) (statement_row rest)

  pub if_tree : If → IfTree
  if_tree (IfOf' word condition then label p alternative) =
      if_statement word (expression_tree condition) then (a_statement label (plain_tree p)) (else_tree alternative)

  pub else_tree : Held-If-alternative → ElseTree
  else_tree None' = without_else
  else_tree (Some' word label p) = an_else word (a_statement label (plain_tree p))

  pub case_tree : Case → CaseTree
  case_tree (CaseOf' word selector of constants colon label p _ others semicolon end) =
      case_statement word (expression_tree selector) of
      (a_branch (constants_tree constants) colon (a_statement label (plain_tree p))) (branch_row others) semicolon end

  pub branch_row : {m : _} → Row_of-NextBranch m → BranchTrees
  branch_row end_of-NextBranch = end_of_branches
  branch_row (more_of-NextBranch semicolon constants colon label p rest) =
      more_branches semicolon (a_branch (constants_tree constants) colon (a_statement label (plain_tree p)))
      (branch_row rest)

  pub repeat_tree : Repeat → RepeatTree
  repeat_tree (RepeatOf' word body until condition) =
      repeat_statement word (statements_tree body) until (expression_tree condition)

-- ---- the same of what the code holds

abbrev pub statement_tree : Statement → StatementTree
statement_tree s = a_statement s.label (plain_tree s.plain)

abbrev pub statement_trees : List NextStatement → StatementTrees
statement_trees [] = end_of_statements
statement_trees (n ∷ rest) = more_statements n.semicolon (statement_tree n.statement) (statement_trees rest)

abbrev pub branch_tree : Branch → BranchTree
branch_tree b = a_branch (constants_tree b.constants) b.colon (statement_tree b.statement)

abbrev pub branch_trees : List NextBranch → BranchTrees
branch_trees [] = end_of_branches
branch_trees (n ∷ rest) = more_branches n.semicolon (branch_tree n.branch) (branch_trees rest)

abbrev pub else_in : Option Else → ElseTree
else_in None = without_else
else_in (Some e) = an_else e.word (statement_tree e.statement)
