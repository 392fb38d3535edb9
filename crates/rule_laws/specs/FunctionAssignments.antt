-- Whether statements assign to a function (6.8.2.2), inside of the with statements around them.
use Rattle.std.specs.Prelude.{◌&&◌, ◌||◌, ℕ, Bool, List, None, Option, Some, false, nat_eq}
use Rattle.pas_tree.specs.StatementTrees.{AssignmentTree, BranchTree, BranchTrees, CaseTree, CompoundTree, ElseTree}
use Rattle.pas_tree.specs.StatementTrees.{IfTree, PlainTree, RepeatTree, StatementTree, StatementTrees, StatementsTree}
use Rattle.pas_tree.specs.StatementTrees as tree
use Rattle.check_steps.specs.{Known.Known, declared.regions.Found.Found}
use Rattle.expression_checker.specs.NamesAlone.{is_name}
use Rattle.rule_laws.specs.WithRecords.{inside_access, inside_accesses, named}

-- The statements of a block are gone over, for the function by the name in its first heading.
pub record Search : Type 0 where
  pub k : Known
  pub function : ℕ
  -- the frame of the block
  pub frame : ℕ

abbrev pub is_defined_at : ℕ → Option Found → Bool
is_defined_at function None = false
is_defined_at function (Some f) = nat_eq f.definition.token function

-- whether the function's first heading defines what a name stands for
abbrev pub is_function_name : Search → List ℕ → ℕ → Bool
is_function_name s records name = is_defined_at s.function (named s.k s.frame records name)

-- Only a name alone stands for a function on the left.
abbrev pub assigns : Search → List ℕ → AssignmentTree → Bool
assigns s records a = is_name a.target.selectors && is_function_name s records a.target.name

abbrev mutual
  -- whether a statement, or one inside of it, assigns to the function, seen from inside of some records
  pub assigns_in : Search → List ℕ → StatementTree → Bool
  assigns_in s records (tree.a_statement label p) = assigns_inside s records p

  pub assigns_inside : Search → List ℕ → PlainTree → Bool
  assigns_inside s records tree.an_empty = false
  assigns_inside s records (tree.an_assignment a) = assigns s records a
  assigns_inside s records (tree.a_procedure_call name actuals) = false
  assigns_inside s records (tree.a_goto word label) = false
  assigns_inside s records (tree.a_compound c) = compound_assigns s records c
  assigns_inside s records (tree.an_if i) = if_assigns s records i
  assigns_inside s records (tree.a_case c) = case_assigns s records c
  assigns_inside s records (tree.a_repeat r) = repeat_assigns s records r
  assigns_inside s records (tree.a_while word condition do_word x) = assigns_in s records x
  assigns_inside s records (tree.a_for word name becomes initial direction last do_word x) = assigns_in s records x
  assigns_inside s records (tree.a_with word first others do_word x) =
      assigns_in s (inside_accesses s.k s.frame (inside_access s.k s.frame records first) others) x

  pub compound_assigns : Search → List ℕ → CompoundTree → Bool
  compound_assigns s records (tree.compound_statement word body last) = sequence_assigns s records body

  pub sequence_assigns : Search → List ℕ → StatementsTree → Bool
  sequence_assigns s records (tree.statement_sequence first others) =
      assigns_in s records first || more_assign s records others

  pub more_assign : Search → List ℕ → StatementTrees → Bool
  more_assign s records tree.end_of_statements = false
  more_assign s records (tree.more_statements semicolon x rest) = assigns_in s records x || more_assign s records rest

  pub if_assigns : Search → List ℕ → IfTree → Bool
  if_assigns s records (tree.if_statement word condition then_word x alternative) =
      assigns_in s records x || else_assigns s records alternative

  pub else_assigns : Search → List ℕ → ElseTree → Bool
  else_assigns s records tree.without_else = false
  else_assigns s records (tree.an_else word x) = assigns_in s records x

  pub case_assigns : Search → List ℕ → CaseTree → Bool
  case_assigns s records (tree.case_statement word selector of_word first others semicolon last) =
      branch_assigns s records first || branches_assign s records others

  pub branch_assigns : Search → List ℕ → BranchTree → Bool
  branch_assigns s records (tree.a_branch constants colon x) = assigns_in s records x

  pub branches_assign : Search → List ℕ → BranchTrees → Bool
  branches_assign s records tree.end_of_branches = false
  branches_assign s records (tree.more_branches semicolon b rest) =
      branch_assigns s records b || branches_assign s records rest

  pub repeat_assigns : Search → List ℕ → RepeatTree → Bool
  repeat_assigns s records (tree.repeat_statement word body until_word condition) = sequence_assigns s records body
