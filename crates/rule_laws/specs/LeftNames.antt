-- The names that stand alone on the left of the assignments of a block and of its procedures and functions (6.8.2.2).
use Rattle.std.specs.Prelude.{◌++◌, ◌∷◌, [], ℕ, Bool, List, false, true}
use Rattle.pas_tree.specs.BlockTrees.{BlockTree, BodyTree, RoutineTree, RoutineTrees}
use Rattle.pas_tree.specs.BlockTrees as blocks
use Rattle.pas_tree.specs.StatementTrees.{AssignmentTree, BranchTree, BranchTrees, CaseTree, CompoundTree, ElseTree}
use Rattle.pas_tree.specs.StatementTrees.{IfTree, PlainTree, RepeatTree, StatementTree, StatementTrees, StatementsTree}
use Rattle.pas_tree.specs.StatementTrees as tree
use Rattle.expression_checker.specs.NamesAlone.{is_name}

abbrev pub name_alone : Bool → ℕ → List ℕ
name_alone true name = name ∷ []
name_alone false name = []

-- the name on the left of an assignment, if no selector follows it
abbrev pub left_name : AssignmentTree → List ℕ
left_name a = name_alone (is_name a.target.selectors) a.target.name

abbrev mutual
  -- those of a statement
  pub left_names : StatementTree → List ℕ
  left_names (tree.a_statement label p) = lefts_inside p

  pub lefts_inside : PlainTree → List ℕ
  lefts_inside tree.an_empty = []
  lefts_inside (tree.an_assignment a) = left_name a
  lefts_inside (tree.a_procedure_call name actuals) = []
  lefts_inside (tree.a_goto word label) = []
  lefts_inside (tree.a_compound c) = compound_lefts c
  lefts_inside (tree.an_if i) = if_lefts i
  lefts_inside (tree.a_case c) = case_lefts c
  lefts_inside (tree.a_repeat r) = repeat_lefts r
  lefts_inside (tree.a_while word condition do_word s) = left_names s
  lefts_inside (tree.a_for word name becomes initial direction last do_word s) = left_names s
  lefts_inside (tree.a_with word first others do_word s) = left_names s

  pub compound_lefts : CompoundTree → List ℕ
  compound_lefts (tree.compound_statement word body last) = sequence_lefts body

  pub sequence_lefts : StatementsTree → List ℕ
  sequence_lefts (tree.statement_sequence first others) = left_names first ++ more_lefts others

  pub more_lefts : StatementTrees → List ℕ
  more_lefts tree.end_of_statements = []
  more_lefts (tree.more_statements semicolon s rest) = left_names s ++ more_lefts rest

  pub if_lefts : IfTree → List ℕ
  if_lefts (tree.if_statement word condition then_word s alternative) = left_names s ++ else_lefts alternative

  pub else_lefts : ElseTree → List ℕ
  else_lefts tree.without_else = []
  else_lefts (tree.an_else word s) = left_names s

  pub case_lefts : CaseTree → List ℕ
  case_lefts (tree.case_statement word selector of_word first others semicolon last) =
      branch_lefts first ++ branches_lefts others

  pub branch_lefts : BranchTree → List ℕ
  branch_lefts (tree.a_branch constants colon s) = left_names s

  pub branches_lefts : BranchTrees → List ℕ
  branches_lefts tree.end_of_branches = []
  branches_lefts (tree.more_branches semicolon b rest) = branch_lefts b ++ branches_lefts rest

  pub repeat_lefts : RepeatTree → List ℕ
  repeat_lefts (tree.repeat_statement word body until_word condition) = sequence_lefts body

abbrev mutual
  -- those of a block and of the procedures and functions in it
  pub block_lefts : BlockTree → List ℕ
  block_lefts (blocks.a_block labels constants types variables routines body) =
      routines_lefts routines ++ compound_lefts body

  pub routines_lefts : RoutineTrees → List ℕ
  routines_lefts blocks.end_of_routines = []
  routines_lefts (blocks.more_routines r rest) = routine_lefts r ++ routines_lefts rest

  pub routine_lefts : RoutineTree → List ℕ
  routine_lefts (blocks.a_routine heading semicolon body last_semicolon) = body_lefts body

  pub body_lefts : BodyTree → List ℕ
  body_lefts (blocks.a_directive directive) = []
  body_lefts (blocks.a_block_body b) = block_lefts b
