-- The names alone on the left of assignments are tokens of their statements.
use Rattle.std.proofs.Common.{◌≡◌, ℕ, Bool, false, inl, inr, true}
use Rattle.grammar.specs.Nodes.{Node}
use Rattle.pas_tree.specs.BlockTrees.{BlockTree, BodyTree, RoutineTree, RoutineTrees}
use Rattle.pas_tree.specs.BlockTrees as blocks
use Rattle.pas_tree.specs.StatementTrees.{BranchTree, BranchTrees, CaseTree, CompoundTree, ElseTree, IfTree, PlainTree, RepeatTree, StatementTree}
use Rattle.pas_tree.specs.StatementTrees.{StatementTrees, StatementsTree}
use Rattle.pas_tree.specs.StatementTrees as tree
use Rattle.pas_tree.specs.TreeNodes.{block_node, body_node, branch_node, branches_node, case_node, compound_node, else_node, if_node, more_statements_node}
use Rattle.pas_tree.specs.TreeNodes.{plain_node, repeat_node, routine_node, routines_node, statement_node, statements_node}
use Rattle.expression_checker.specs.NamesAlone.{is_name}
use Rattle.rule_laws.proofs.Listed.{Listed, listed_either}
use Rattle.rule_laws.specs.LeftNames.{block_lefts, body_lefts, branch_lefts, branches_lefts, case_lefts, compound_lefts, else_lefts, if_lefts, left_names}
use Rattle.rule_laws.specs.LeftNames.{lefts_inside, more_lefts, name_alone, repeat_lefts, routine_lefts, routines_lefts, sequence_lefts}
use Rattle.rule_laws.specs.Tokens.{Has}

alone_is : (alone : Bool) (name n : ℕ) → Listed (name_alone alone name) n → name ≡ n
alone_is true name n (inl e) = e
alone_is true name n (inr h) = absurd h
alone_is false name n h = absurd h

mutual
  left_has : (s : StatementTree) (n : ℕ) → Listed (left_names s) n → Has (statement_node s) n
  left_has (tree.a_statement label p) n h = inr (inside_has p n h)

  inside_has : (p : PlainTree) (n : ℕ) → Listed (lefts_inside p) n → Has (plain_node p) n
  inside_has tree.an_empty n h = absurd h
  inside_has (tree.an_assignment a) n h = inl (alone_is (is_name a.target.selectors) a.target.name n h)
  inside_has (tree.a_procedure_call name actuals) n h = absurd h
  inside_has (tree.a_goto word label) n h = absurd h
  inside_has (tree.a_compound c) n h = compound_has c n h
  inside_has (tree.an_if i) n h = if_has i n h
  inside_has (tree.a_case c) n h = case_has c n h
  inside_has (tree.a_repeat r) n h = repeat_has r n h
  inside_has (tree.a_while word condition do_word s) n h = inr (inr (inr (left_has s n h)))
  inside_has (tree.a_for word name becomes initial direction last do_word s) n h = inr (inr (inr (inr (inr (inr (inr (left_has s n h)))))))
  inside_has (tree.a_with word first others do_word s) n h = inr (inr (inr (inr (left_has s n h))))

  pub compound_has : (c : CompoundTree) (n : ℕ) → Listed (compound_lefts c) n → Has (compound_node c) n
  compound_has (tree.compound_statement word body last) n h = inr (inl (sequence_has body n h))

  sequence_has : (s : StatementsTree) (n : ℕ) → Listed (sequence_lefts s) n → Has (statements_node s) n
  sequence_has (tree.statement_sequence first others) n h = elim (listed_either (left_names first) (more_lefts others) n h) [
    | inl i ↦ inl (left_has first n i)
    | inr i ↦ inr (more_has others n i)
  ]

  more_has : (r : StatementTrees) (n : ℕ) → Listed (more_lefts r) n → Has (more_statements_node r) n
  more_has tree.end_of_statements n h = absurd h
  more_has (tree.more_statements semicolon s rest) n h = elim (listed_either (left_names s) (more_lefts rest) n h) [
    | inl i ↦ inl (inr (left_has s n i))
    | inr i ↦ inr (more_has rest n i)
  ]

  if_has : (i : IfTree) (n : ℕ) → Listed (if_lefts i) n → Has (if_node i) n
  if_has (tree.if_statement word condition then_word s alternative) n h = elim (listed_either (left_names s) (else_lefts alternative) n h) [
    | inl i ↦ inr (inr (inr (inl (left_has s n i))))
    | inr i ↦ inr (inr (inr (inr (else_has alternative n i))))
  ]

  else_has : (e : ElseTree) (n : ℕ) → Listed (else_lefts e) n → Has (else_node e) n
  else_has tree.without_else n h = absurd h
  else_has (tree.an_else word s) n h = inr (left_has s n h)

  case_has : (c : CaseTree) (n : ℕ) → Listed (case_lefts c) n → Has (case_node c) n
  case_has (tree.case_statement word selector of_word first others semicolon last) n h =
      elim (listed_either (branch_lefts first) (branches_lefts others) n h) [
        | inl i ↦ inr (inr (inr (inl (branch_has first n i))))
        | inr i ↦ inr (inr (inr (inr (inl (branches_has others _ n i)))))
      ]

  branch_has : (b : BranchTree) (n : ℕ) → Listed (branch_lefts b) n → Has (branch_node b) n
  branch_has (tree.a_branch constants colon s) n h = inr (inr (left_has s n h))

  branches_has : (r : BranchTrees) (end : Node) (n : ℕ) → Listed (branches_lefts r) n → Has (branches_node r end) n
  branches_has tree.end_of_branches end n h = absurd h
  branches_has (tree.more_branches semicolon b rest) end n h = elim (listed_either (branch_lefts b) (branches_lefts rest) n h) [
    | inl i ↦ inr (inl (branch_has b n i))
    | inr i ↦ inr (inr (branches_has rest end n i))
  ]

  repeat_has : (r : RepeatTree) (n : ℕ) → Listed (repeat_lefts r) n → Has (repeat_node r) n
  repeat_has (tree.repeat_statement word body until_word condition) n h = inr (inl (sequence_has body n h))

mutual
  pub block_has : (b : BlockTree) (n : ℕ) → Listed (block_lefts b) n → Has (block_node b) n
  block_has (blocks.a_block labels constants types variables routines body) n h =
      elim (listed_either (routines_lefts routines) (compound_lefts body) n h) [
        | inl i ↦ inr (inr (inr (inr (inl (part_has routines n i)))))
        | inr i ↦ inr (inr (inr (inr (inr (compound_has body n i)))))
      ]

  part_has : (rs : RoutineTrees) (n : ℕ) → Listed (routines_lefts rs) n → Has (routines_node rs) n
  part_has blocks.end_of_routines n h = absurd h
  part_has (blocks.more_routines r rest) n h = elim (listed_either (routine_lefts r) (routines_lefts rest) n h) [
    | inl i ↦ inl (lefts_has r n i)
    | inr i ↦ inr (part_has rest n i)
  ]

  -- so are those of a procedure or function
  pub lefts_has : (r : RoutineTree) (n : ℕ) → Listed (routine_lefts r) n → Has (routine_node r) n
  lefts_has (blocks.a_routine heading semicolon body last_semicolon) n h = inr (inr (inl (body_has body n h)))

  body_has : (body : BodyTree) (n : ℕ) → Listed (body_lefts body) n → Has (body_node body) n
  body_has (blocks.a_directive directive) n h = absurd h
  body_has (blocks.a_block_body b) n h = block_has b n h
