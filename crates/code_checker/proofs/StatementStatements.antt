-- What the steps of `Rattle.statement_checker.specs.Statements` keep.
use Rattle.std.proofs.Common.{ℕ, Bool, None, Option, Some}
use Rattle.grammar.specs.Nodes.{Node}
use Rattle.pas_tree.specs.{Denoters.last_semicolon_node, StatementTrees.StatementTrees, StatementTrees.StatementsTree, Statements.label_node}
use Rattle.pas_tree.specs.{TreeNodes.plain_node, TreeNodes.repeat_node, TreeNodes.statement_node, TreeNodes.statements_node, declared.statements.Label.Label}
use Rattle.pas_tree.specs.StatementTrees.{BranchTree, BranchTrees, CaseTree, CompoundTree, ElseTree, IfTree, PlainTree, RepeatTree, StatementTree}
use Rattle.pas_tree.specs.StatementTrees as tree
use Rattle.pas_tree.specs.TreeNodes.{branch_node, branches_node, case_node, compound_node, else_node, if_node, more_statements_node, next_access_node}
use Rattle.check_steps.specs.Steps.{Step}
use Rattle.denoter_checker.specs.declared.variants.Choosing.{Choosing}
use Rattle.statement_checker.specs.{Parts.another_record, declared.sequences.Branching.Branching, declared.sequences.Element.Element}
use Rattle.statement_checker.specs.Statements.{branch_step, branching, case_statement, compound, element, else_statement, if_statement, label_token}
use Rattle.statement_checker.specs.Statements.{labelled_by, more_branches, more_statements, plain, repeat_statement, sequence, statement_step}
use Rattle.code_checker.proofs.{DenoterVariants.choices-holds, Parts.compound-in, StatementChoices.case_row-holds, StatementRecords.put_with-holds, Steps.Holds}
use Rattle.code_checker.proofs.{Steps.bind-holds, Steps.each-holds, Steps.give-holds, Within.Within}
use Rattle.code_checker.proofs.StatementLabels.{jump-holds, labelled-holds, leave-holds, leave_all-holds, mark-holds, reach_all-holds, reach_label-holds}
use Rattle.code_checker.proofs.StatementParts.{another_record-holds, assignment-holds, call_statement-holds, condition_row-holds, first_record-holds}
use Rattle.code_checker.proofs.StatementParts.{for_begins-holds, for_ends-holds, selected-holds}
use Rattle.code_checker.proofs.StatementSequences.{add_element-holds, compound_row-holds, empty-holds, if_else_row-holds, if_row-holds, link_element-holds}
use Rattle.code_checker.proofs.StatementSequences.{repeat_row-holds, while_row-holds}

pub labelled_by-holds : {size : ℕ} {later : Bool} (frame : ℕ) (label : Option Label) (m : Step ℕ) → Within size (label_node label) → Holds size later m
    → Holds size later (labelled_by frame label m)
labelled_by-holds frame None m label-in m-in = m-in
labelled_by-holds frame (Some l) m label-in m-in = bind-holds (mark-holds frame l.number label-in.0) (λ _. bind-holds (reach_label-holds frame l.number) (λ _.
    bind-holds m-in (λ n. bind-holds (leave-holds frame l.number) (λ _. labelled-holds l.number n))))

mutual
  pub plain-holds : {size : ℕ} {later : Bool} (frame : ℕ) (label : Option ℕ) (plain' : PlainTree) → Within size (plain_node plain')
      → Holds size later (plain frame label plain')
  plain-holds frame label tree.an_empty plain-in = empty-holds
  plain-holds frame label (tree.an_assignment a) plain-in = assignment-holds frame label a plain-in
  plain-holds frame label (tree.a_procedure_call name actuals) plain-in = call_statement-holds frame label name actuals plain-in.0 plain-in.1
  plain-holds frame label (tree.a_goto word target) plain-in = jump-holds frame label word target plain-in.1
  plain-holds frame label (tree.a_compound c) plain-in = compound-holds frame c plain-in
  plain-holds frame label (tree.an_if i) plain-in = if_statement-holds frame label i plain-in
  plain-holds frame label (tree.a_case c) plain-in = case_statement-holds frame label c plain-in
  plain-holds frame label (tree.a_repeat r) plain-in = repeat_statement-holds frame label r plain-in
  plain-holds frame label (tree.a_while word condition do_word s) plain-in =
      bind-holds (condition_row-holds frame condition plain-in.1.0) (λ c. bind-holds (statement_step-holds frame s plain-in.1.1.1) (λ inside.
      while_row-holds label word c inside))
  plain-holds frame label (tree.a_for word name becomes initial direction last do_word s) plain-in =
      bind-holds (for_begins-holds frame name initial last plain-in.1.0 plain-in.1.1.1.0 plain-in.1.1.1.1.1.0) (λ b.
      bind-holds (statement_step-holds frame s plain-in.1.1.1.1.1.1.1) (λ inside. for_ends-holds label word direction b inside plain-in.1.1.1.1.0))
  plain-holds frame label (tree.a_with word first others do_word s) plain-in =
      bind-holds (first_record-holds frame word first plain-in.1.0) (λ one.
      bind-holds (each-holds another_record next_access_node (λ a x h. another_record-holds a x h) one others plain-in.1.1.0) (λ all.
      bind-holds (link_element-holds all.last 0) (λ _. bind-holds (statement_step-holds all.frame s plain-in.1.1.1.1) (λ inside.
      put_with-holds label word do_word inside))))

  pub statement_step-holds : {size : ℕ} {later : Bool} (frame : ℕ) (s : StatementTree) → Within size (statement_node s)
      → Holds size later (statement_step frame s)
  statement_step-holds frame (tree.a_statement label p) s-in =
      labelled_by-holds frame label (plain frame (label_token label) p) s-in.0 (plain-holds frame (label_token label) p s-in.1)

  pub compound-holds : {size : ℕ} {later : Bool} (frame : ℕ) (compound' : CompoundTree) → Within size (compound_node compound')
      → Holds size later (compound frame compound')
  compound-holds frame (tree.compound_statement word body end) compound-in = bind-holds (reach_all-holds frame body compound-in.1.0) (λ _.
      bind-holds (sequence-holds frame word body compound-in.1.0) (λ last. bind-holds (leave_all-holds frame body compound-in.1.0) (λ _.
      compound_row-holds word last end)))

  pub sequence-holds : {size : ℕ} {later : Bool} (frame : ℕ) (list : ℕ) (statements : StatementsTree) → Within size (statements_node statements)
      → Holds size later (sequence frame list statements)
  sequence-holds frame list (tree.statement_sequence first others) statements-in =
      bind-holds (statement_step-holds frame first statements-in.0) (λ n. more_statements-holds frame (element list n) others statements-in.1)

  pub more_statements-holds : {size : ℕ} {later : Bool} (frame : ℕ) (last : Element) (rest : StatementTrees) → Within size (more_statements_node rest)
      → Holds size later (more_statements frame last rest)
  more_statements-holds frame last tree.end_of_statements rest-in = give-holds last
  more_statements-holds frame last (tree.more_statements semicolon s rest) rest-in =
      bind-holds (bind-holds (statement_step-holds frame s rest-in.0.1) (λ n. add_element-holds last semicolon n)) (λ next.
      more_statements-holds frame next rest rest-in.1)

  pub if_statement-holds : {size : ℕ} {later : Bool} (frame : ℕ) (label : Option ℕ) (if' : IfTree) → Within size (if_node if')
      → Holds size later (if_statement frame label if')
  if_statement-holds frame label (tree.if_statement word condition then_word s alternative) if-in =
      bind-holds (condition_row-holds frame condition if-in.1.0) (λ c. bind-holds (statement_step-holds frame s if-in.1.1.1.0) (λ n.
      else_statement-holds frame (branching label word c n) alternative if-in.1.1.1.1))

  pub else_statement-holds : {size : ℕ} {later : Bool} (frame : ℕ) (b : Branching) (alternative : ElseTree) → Within size (else_node alternative)
      → Holds size later (else_statement frame b alternative)
  else_statement-holds frame b tree.without_else alternative-in = if_row-holds b
  else_statement-holds frame b (tree.an_else word s) alternative-in =
      bind-holds (statement_step-holds frame s alternative-in.1) (λ n. if_else_row-holds b n)

  pub case_statement-holds : {size : ℕ} {later : Bool} (frame : ℕ) (label : Option ℕ) (case' : CaseTree) → Within size (case_node case')
      → Holds size later (case_statement frame label case')
  case_statement-holds frame label (tree.case_statement word selector of_word first others semicolon end) case-in =
      bind-holds (selected-holds frame of_word selector case-in.1.0) (λ s.
      bind-holds (branch_step-holds frame s.choosing of_word of_word first case-in.1.1.1.0) (λ last.
      bind-holds (more_branches-holds frame s.choosing last others (last_semicolon_node semicolon) case-in.1.1.1.1.0) (λ _.
      case_row-holds label word s.row of_word)))

  pub branch_step-holds : {size : ℕ} {later : Bool} (frame : ℕ) (c : Choosing) (last : ℕ) (slot : ℕ) (branch : BranchTree)
      → Within size (branch_node branch) → Holds size later (branch_step frame c last slot branch)
  branch_step-holds frame c last slot (tree.a_branch constants colon s) branch-in =
      bind-holds (statement_step-holds frame s branch-in.1.1) (λ n. choices-holds c n last slot constants branch-in.0)

  pub more_branches-holds : {size : ℕ} {later : Bool} (frame : ℕ) (c : Choosing) (last : ℕ) (rest : BranchTrees) (end : Node)
      → Within size (branches_node rest end) → Holds size later (more_branches frame c last rest)
  more_branches-holds frame c last tree.end_of_branches end rest-in = give-holds last
  more_branches-holds frame c last (tree.more_branches semicolon branch rest) end rest-in =
      bind-holds (branch_step-holds frame c last semicolon branch rest-in.1.0) (λ next. more_branches-holds frame c next rest end rest-in.1.1)

  pub repeat_statement-holds : {size : ℕ} {later : Bool} (frame : ℕ) (label : Option ℕ) (repeat : RepeatTree) → Within size (repeat_node repeat)
      → Holds size later (repeat_statement frame label repeat)
  repeat_statement-holds frame label (tree.repeat_statement word body until_word condition) repeat-in =
      bind-holds (reach_all-holds frame body repeat-in.1.0) (λ _. bind-holds (sequence-holds frame word body repeat-in.1.0) (λ last.
      bind-holds (leave_all-holds frame body repeat-in.1.0) (λ _. bind-holds (link_element-holds last 0) (λ _.
      bind-holds (condition_row-holds frame condition repeat-in.1.1.1) (λ c. repeat_row-holds label word until_word c)))))
