-- The labels in front of the statements of a block (6.8.1), in the order of the text.
use Rattle.std.specs.Prelude.{◌++◌, ◌∷◌, [], ℕ, Bool, List, None, Option, Some, is_some, nat_eq}
use Rattle.std.specs.List.{list_any}
use Rattle.pas_tree.specs.StatementTrees.{BranchTree, BranchTrees, CaseTree, CompoundTree, ElseTree, IfTree, PlainTree}
use Rattle.pas_tree.specs.StatementTrees.{RepeatTree, StatementTree, StatementTrees, StatementsTree}
use Rattle.pas_tree.specs.StatementTrees as tree
use Rattle.pas_tree.specs.declared.statements.Label.{Label}
use Rattle.check_steps.specs.{Known.Known, Known.frame_at, Known.label_at, Regions.declared_in}

abbrev pub in_front : Option Label → List ℕ
in_front None = []
in_front (Some l) = l.number ∷ []

abbrev mutual
  -- the labels in a statement
  pub labels_of_statement : StatementTree → List ℕ
  labels_of_statement (tree.a_statement label p) = in_front label ++ labels_inside p

  -- those of the statements inside of one
  pub labels_inside : PlainTree → List ℕ
  labels_inside tree.an_empty = []
  labels_inside (tree.an_assignment a) = []
  labels_inside (tree.a_procedure_call name actuals) = []
  labels_inside (tree.a_goto word label) = []
  labels_inside (tree.a_compound c) = compound_labels c
  labels_inside (tree.an_if i) = if_labels i
  labels_inside (tree.a_case c) = case_labels c
  labels_inside (tree.a_repeat r) = repeat_labels r
  labels_inside (tree.a_while word condition do_word s) = labels_of_statement s
  labels_inside (tree.a_for word name becomes initial direction last do_word s) = labels_of_statement s
  labels_inside (tree.a_with word first others do_word s) = labels_of_statement s

  pub compound_labels : CompoundTree → List ℕ
  compound_labels (tree.compound_statement word body last) = sequence_labels body

  pub sequence_labels : StatementsTree → List ℕ
  sequence_labels (tree.statement_sequence first others) = labels_of_statement first ++ more_labels others

  pub more_labels : StatementTrees → List ℕ
  more_labels tree.end_of_statements = []
  more_labels (tree.more_statements semicolon s rest) = labels_of_statement s ++ more_labels rest

  pub if_labels : IfTree → List ℕ
  if_labels (tree.if_statement word condition then_word s alternative) =
      labels_of_statement s ++ else_labels alternative

  pub else_labels : ElseTree → List ℕ
  else_labels tree.without_else = []
  else_labels (tree.an_else word s) = labels_of_statement s

  pub case_labels : CaseTree → List ℕ
  case_labels (tree.case_statement word selector of_word first others semicolon last) =
      branch_labels first ++ branches_labels others

  pub branch_labels : BranchTree → List ℕ
  branch_labels (tree.a_branch constants colon s) = labels_of_statement s

  pub branches_labels : BranchTrees → List ℕ
  branches_labels tree.end_of_branches = []
  branches_labels (tree.more_branches semicolon b rest) = branch_labels b ++ branches_labels rest

  pub repeat_labels : RepeatTree → List ℕ
  repeat_labels (tree.repeat_statement word body until_word condition) = sequence_labels body

-- whether the block of a frame itself declares a label
abbrev pub declares : Known → ℕ → ℕ → Bool
declares k frame label = is_some (declared_in k.regions (frame_at k frame).region (label_at k label))

-- whether one of these labels has a value
abbrev pub marks : Known → List ℕ → ℕ → Bool
marks k labels value = list_any (λ l. nat_eq (label_at k l) value) labels
