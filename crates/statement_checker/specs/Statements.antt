-- Statements (6.8): an equation for each construct. What is given is a statement's number.
use Rattle.std.specs.Prelude.{ℕ, None, Option, Some}
use Rattle.pas_tree.specs.ConstantTrees.{ConstantsTree, constants_tree}
use Rattle.pas_tree.specs.StatementTrees.{BranchTree, BranchTrees, CaseTree, CompoundTree, ElseTree, IfTree, PlainTree}
use Rattle.pas_tree.specs.StatementTrees.{RepeatTree, StatementTree, StatementTrees, StatementsTree}
use Rattle.pas_tree.specs.StatementTrees as tree
use Rattle.pas_tree.specs.declared.statements.{Label.Label, NextBranch.NextBranch, NextStatement.NextStatement}
use Rattle.check_steps.specs.Steps.{◌>>=◌, Step, each, give}
use Rattle.denoter_checker.specs.{Variants.choices, declared.variants.Choosing.Choosing}
use Rattle.statement_checker.specs.{Choices.case_row, Records.put_with, Sequences.repeat_row, Sequences.while_row}
use Rattle.statement_checker.specs.Labels.{jump, labelled, leave, leave_all, mark, reach_all, reach_label}
use Rattle.statement_checker.specs.Parts.{another_record, assignment, call_statement, condition_row, first_record}
use Rattle.statement_checker.specs.Parts.{for_begins, for_ends, selected}
use Rattle.statement_checker.specs.Sequences.{add_element, compound_row, empty, if_else_row, if_row, link_element}
use Rattle.statement_checker.specs.declared.sequences.{Branching.Branching, Element.Element}

abbrev pub element : ℕ → ℕ → Element
element slot item = record { slot = slot; item = item }

abbrev pub branching : Option ℕ → ℕ → ℕ → ℕ → Branching
branching label word condition then = record { label = label; word = word; condition = condition; then = then }

-- the token of a label
abbrev pub label_token : Option Label → Option ℕ
label_token None = None
label_token (Some l) = Some l.number

-- a statement after its label, if it has one: from within it may be reached
abbrev pub labelled_by : ℕ → Option Label → Step ℕ → Step ℕ
labelled_by frame None m = m
labelled_by frame (Some l) m = do
  _ ← mark frame l.number
  _ ← reach_label frame l.number
  n ← m
  _ ← leave frame l.number
  labelled l.number n

-- one more statement of a list, at its semicolon, by itself
abbrev pub added_element : Element → ℕ → Step ℕ → Step Element
added_element last slot m = do
  n ← m
  add_element last slot n

-- a case list element, by its statement
abbrev pub chosen_by : Choosing → ℕ → ℕ → ConstantsTree → Step ℕ → Step ℕ
chosen_by c last slot constants m = do
  n ← m
  choices c n last slot constants

abbrev mutual
  -- a statement that may have a label
  pub statement_step : ℕ → StatementTree → Step ℕ
  statement_step frame (tree.a_statement label p) = labelled_by frame label (plain frame (label_token label) p)

  -- a statement without its label, whose line is that of the label if there is one
  pub plain : ℕ → Option ℕ → PlainTree → Step ℕ
  plain frame label tree.an_empty = empty
  plain frame label (tree.an_assignment a) = assignment frame label a
  plain frame label (tree.a_procedure_call name actuals) = call_statement frame label name actuals
  plain frame label (tree.a_goto word target) = jump frame label word target
  plain frame label (tree.a_compound c) = compound frame c
  plain frame label (tree.an_if x) = if_statement frame label x
  plain frame label (tree.a_case x) = case_statement frame label x
  plain frame label (tree.a_repeat x) = repeat_statement frame label x
  plain frame label (tree.a_while word condition do_word s) = do
    c ← condition_row frame condition
    inside ← statement_step frame s
    while_row label word c inside
  plain frame label (tree.a_for word name becomes initial direction last do_word s) = do
    b ← for_begins frame name initial last
    inside ← statement_step frame s
    for_ends label word direction b inside
  plain frame label (tree.a_with word first others do_word s) = do
    one ← first_record frame word first
    all ← each another_record one others
    _ ← link_element all.last 0
    inside ← statement_step all.frame s
    put_with label word do_word inside

  -- The list of the statements stands at `begin`. From within all of them may be reached.
  pub compound : ℕ → CompoundTree → Step ℕ
  compound frame (tree.compound_statement word body end) = do
    _ ← reach_all frame body
    last ← sequence frame word body
    _ ← leave_all frame body
    compound_row word last end

  -- statements in a list that begins at a number; the last one is given
  pub sequence : ℕ → ℕ → StatementsTree → Step Element
  sequence frame list (tree.statement_sequence first others) = do
    n ← statement_step frame first
    more_statements frame (element list n) others

  pub more_statements : ℕ → Element → StatementTrees → Step Element
  more_statements frame last tree.end_of_statements = give last
  more_statements frame last (tree.more_statements semicolon s rest) = do
    next ← added_element last semicolon (statement_step frame s)
    more_statements frame next rest

  pub if_statement : ℕ → Option ℕ → IfTree → Step ℕ
  if_statement frame label (tree.if_statement word condition then_word s alternative) = do
    c ← condition_row frame condition
    n ← statement_step frame s
    else_statement frame (branching label word c n) alternative

  pub else_statement : ℕ → Branching → ElseTree → Step ℕ
  else_statement frame b tree.without_else = if_row b
  else_statement frame b (tree.an_else word s) = do
    n ← statement_step frame s
    if_else_row b n

  -- The list of the values that choose stands at `of`.
  pub case_statement : ℕ → Option ℕ → CaseTree → Step ℕ
  case_statement frame label (tree.case_statement word selector of_word first others semicolon end) = do
    s ← selected frame of_word selector
    last ← branch_step frame s.choosing of_word of_word first
    _ ← more_branches frame s.choosing last others
    case_row label word s.row of_word

  pub branch_step : ℕ → Choosing → ℕ → ℕ → BranchTree → Step ℕ
  branch_step frame c last slot (tree.a_branch constants colon s) =
      chosen_by c last slot constants (statement_step frame s)

  pub more_branches : ℕ → Choosing → ℕ → BranchTrees → Step ℕ
  more_branches frame c last tree.end_of_branches = give last
  more_branches frame c last (tree.more_branches semicolon b rest) = do
    next ← branch_step frame c last semicolon b
    more_branches frame c next rest

  -- The list of the statements stands at `repeat`. From within all of them may be reached.
  pub repeat_statement : ℕ → Option ℕ → RepeatTree → Step ℕ
  repeat_statement frame label (tree.repeat_statement word body until_word condition) = do
    _ ← reach_all frame body
    last ← sequence frame word body
    _ ← leave_all frame body
    _ ← link_element last 0
    c ← condition_row frame condition
    repeat_row label word until_word c

-- ---- one more of what the code holds

unfoldable pub next_statement : ℕ → Element → NextStatement → Step Element
next_statement frame last n = added_element last n.semicolon (statement_step frame (tree.statement_tree n.statement))

unfoldable pub next_branch : ℕ → Choosing → ℕ → NextBranch → Step ℕ
next_branch frame c last n =
    chosen_by c last n.semicolon (constants_tree n.branch.constants)
    (statement_step frame (tree.statement_tree n.branch.statement))
