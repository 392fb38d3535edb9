-- What the steps of `Rattle.statement_checker.specs.Statements` touch.
use Rattle.std.proofs.Common.{◌∷◌, ◌≡◌, [], ℕ, List, None, Option, Some, false, map, refl, subst, sym}
use Rattle.grammar.specs.Nodes.{Node, row}
use Rattle.pas_tree.specs.{Denoters.last_semicolon_node, ExpressionTrees.AccessTree, ExpressionTrees.ExpressionTree, StatementTrees.StatementTree}
use Rattle.pas_tree.specs.{StatementTrees.StatementTrees, StatementTrees.StatementsTree, Statements.label_node, declared.statements.Label.Label}
use Rattle.pas_tree.specs.StatementTrees.{BranchTree, BranchTrees, CaseTree, CompoundTree, ElseTree, IfTree, NextAccessTree, PlainTree, RepeatTree}
use Rattle.pas_tree.specs.StatementTrees as tree
use Rattle.pas_tree.specs.TreeNodes.{branch_node, branches_node, case_node, compound_node, else_node, if_node, more_statements_node, next_access_node}
use Rattle.pas_tree.specs.TreeNodes.{plain_node, repeat_node, statement_node, statements_node}
use Rattle.check_steps.specs.Known.{Known}
use Rattle.check_steps.specs.Steps.{◌>>=◌, Step, change, each, give}
use Rattle.denoter_checker.specs.declared.variants.Choosing.{Choosing}
use Rattle.statement_checker.specs.{Choices.selector, Parts.another_record, Parts.first_record, Parts.selected, Sequences.add_element, Sequences.link_element}
use Rattle.statement_checker.specs.Statements.{added_element, branch_step, branching, case_statement, compound, element, else_statement, if_statement}
use Rattle.statement_checker.specs.Statements.{label_token, labelled_by, more_branches, more_statements, plain, repeat_statement, sequence, statement_step}
use Rattle.statement_checker.specs.declared.{parts.Opened.Opened, parts.Selected.Selected, sequences.Branching.Branching, sequences.Element.Element}
use Rattle.rule_laws.proofs.{DenoterVariants.choices-touches, Every.Every, Every.Of, Faces.Shown, Faces.loose, StatementChoices.case_row-touches}
use Rattle.rule_laws.proofs.{StatementLabels.reach_label-touches, StatementRecords.put_with-touches}
use Rattle.rule_laws.proofs.StatementLabels.{jump-touches, labelled-touches, leave-touches, leave_all-touches, mark-touches, reach_all-touches}
use Rattle.rule_laws.proofs.StatementParts.{another_record-touches, assignment-touches, call_statement-touches, condition_row-touches, first_record-touches}
use Rattle.rule_laws.proofs.StatementParts.{for_begins-touches, for_ends-touches, selected-touches}
use Rattle.rule_laws.proofs.StatementSequences.{add_element-touches, added, compound_row-touches, empty-touches, if_else_row-touches, if_row-touches}
use Rattle.rule_laws.proofs.StatementSequences.{link_element-touches, repeat_row-touches, while_row-touches}
use Rattle.rule_laws.proofs.Touches.{Touches, bind-gives, bind-touches, give-touches}

pub labelled_by-touches : {Q : ℕ → Type 0} (frame : ℕ) (label : Option Label) (m : Step ℕ) → Every Q (label_node label) → Touches Q loose m
    → Touches Q loose (labelled_by frame label m)
labelled_by-touches frame None m label-in m-in = m-in
labelled_by-touches frame (Some l) m label-in m-in = bind-touches (mark-touches refl frame l.number label-in.0)
    (λ _. bind-touches (reach_label-touches frame l.number) (λ _.
    bind-touches m-in (λ n. bind-touches (leave-touches frame l.number) (λ _. labelled-touches l.number n label-in.0))))

-- ---- where lists end

-- the list of the records of a with statement ends at its word or a comma
pub first_opened : {Q : ℕ → Type 0} (frame word : ℕ) (a : AccessTree) → Of Q word → (k : Known) → Of Q (first_record frame word a k).value.last.slot
unfolding first_record ◌>>=◌ give
first_opened frame word a here k = here

pub record_opened : {Q : ℕ → Type 0} (o : Opened) (n : NextAccessTree) → Of Q n.comma → (k : Known) → Of Q (another_record o n k).value.last.slot
unfolding another_record add_element link_element ◌>>=◌ change give
record_opened o n here k = here

pub next_records-touches : {Q : ℕ → Type 0} {strict : Shown} → strict.frames ≡ false → (o : Opened) (ns : List NextAccessTree) → Of Q o.last.slot
    → Every Q (row (map next_access_node ns)) → Touches Q strict (each another_record o ns)
next_records-touches lax o [] here inside = give-touches o
next_records-touches {Q = Q} lax o (n ∷ ns) here inside = bind-gives (λ (p : Opened). Of Q p.last.slot) (another_record-touches lax o n here inside.0)
    (record_opened o n inside.0.0) (λ p p-in. next_records-touches lax p ns p-in inside.1)

pub next_opened : {Q : ℕ → Type 0} (o : Opened) (ns : List NextAccessTree) → Of Q o.last.slot → Every Q (row (map next_access_node ns))
    → (k : Known) → Of Q (each another_record o ns k).value.last.slot
unfolding ◌>>=◌ give
next_opened o [] here inside k = here
next_opened o (n ∷ ns) here inside k =
    let d = another_record o n k in next_opened d.value ns (record_opened o n inside.0.0 k) inside.1 d.known

-- a sequence ends at its beginning or a semicolon
pub added_slot : {Q : ℕ → Type 0} (last : Element) (semicolon : ℕ) (m : Step ℕ) → Of Q semicolon
    → (k : Known) → Of Q (added_element last semicolon m k).value.slot
unfolding ◌>>=◌
added_slot last semicolon m here k = let d = m k in added last semicolon d.value here d.known

pub more_last : {Q : ℕ → Type 0} (frame : ℕ) (last : Element) (rest : StatementTrees) → Of Q last.slot
    → Every Q (more_statements_node rest) → (k : Known) → Of Q (more_statements frame last rest k).value.slot
unfolding ◌>>=◌ give
more_last frame last tree.end_of_statements here inside k = here
more_last frame last (tree.more_statements semicolon s rest) here inside k =
    let d = statement_step frame s k in
    let e = add_element last semicolon d.value d.known in
    more_last frame e.value rest (added last semicolon d.value inside.0.0 d.known) inside.1 e.known

pub sequence_last : {Q : ℕ → Type 0} (frame list : ℕ) (s : StatementsTree) → Of Q list → Every Q (statements_node s)
    → (k : Known) → Of Q (sequence frame list s k).value.slot
unfolding ◌>>=◌
sequence_last frame list (tree.statement_sequence first others) here inside k =
    let d = statement_step frame first k in
    more_last frame (element list d.value) others here inside.1 d.known

-- the list of the values that choose stands at `of`
pub selected_list : (frame of' : ℕ) (e : ExpressionTree) → (k : Known) → (selected frame of' e k).value.choosing.list ≡ of'
unfolding selected selector ◌>>=◌ give
selected_list frame of' e k = refl

-- ---- statements

mutual
  pub plain-touches : {Q : ℕ → Type 0} (frame : ℕ) (label : Option ℕ) (plain' : PlainTree) → Every Q (plain_node plain')
      → Touches Q loose (plain frame label plain')
  plain-touches frame label tree.an_empty plain-in = empty-touches
  plain-touches frame label (tree.an_assignment a) plain-in = assignment-touches refl frame label a plain-in
  plain-touches frame label (tree.a_procedure_call name actuals) plain-in = call_statement-touches frame label name actuals plain-in.0 plain-in.1
  plain-touches frame label (tree.a_goto word target) plain-in = jump-touches frame label word target plain-in.0 plain-in.1
  plain-touches frame label (tree.a_compound c) plain-in = compound-touches frame c plain-in
  plain-touches frame label (tree.an_if i) plain-in = if_statement-touches frame label i plain-in
  plain-touches frame label (tree.a_case c) plain-in = case_statement-touches frame label c plain-in
  plain-touches frame label (tree.a_repeat r) plain-in = repeat_statement-touches frame label r plain-in
  plain-touches frame label (tree.a_while word condition do_word s) plain-in =
      bind-touches (condition_row-touches frame condition plain-in.1.0) (λ c. bind-touches (statement_step-touches frame s plain-in.1.1.1) (λ inside.
      while_row-touches label word c inside plain-in.0))
  plain-touches frame label (tree.a_for word name becomes initial direction last do_word s) plain-in =
      bind-touches (for_begins-touches frame name initial last plain-in.1.0 plain-in.1.1.1.0 plain-in.1.1.1.1.1.0) (λ b.
      bind-touches (statement_step-touches frame s plain-in.1.1.1.1.1.1.1)
      (λ inside. for_ends-touches label word direction b inside plain-in.0 plain-in.1.1.1.1.0))
  plain-touches {Q = Q} frame label (tree.a_with word first others do_word s) plain-in = bind-gives (λ (o : Opened). Of Q o.last.slot)
      (first_record-touches refl frame word first plain-in.1.0) (first_opened frame word first plain-in.0) (λ one one-in.
      bind-gives (λ (o : Opened). Of Q o.last.slot) (next_records-touches refl one others one-in plain-in.1.1.0)
      (next_opened one others one-in plain-in.1.1.0) (λ all all-in.
      bind-touches (link_element-touches all.last 0 all-in) (λ _. bind-touches (statement_step-touches all.frame s plain-in.1.1.1.1) (λ inside.
      put_with-touches label word do_word inside plain-in.1.1.1.0))))

  pub statement_step-touches : {Q : ℕ → Type 0} (frame : ℕ) (s : StatementTree) → Every Q (statement_node s)
      → Touches Q loose (statement_step frame s)
  statement_step-touches frame (tree.a_statement label p) s-in =
      labelled_by-touches frame label (plain frame (label_token label) p) s-in.0 (plain-touches frame (label_token label) p s-in.1)

  pub compound-touches : {Q : ℕ → Type 0} (frame : ℕ) (compound' : CompoundTree) → Every Q (compound_node compound')
      → Touches Q loose (compound frame compound')
  compound-touches {Q = Q} frame (tree.compound_statement word body end) compound-in = bind-touches (reach_all-touches frame body compound-in.1.0) (λ _.
      bind-gives (λ (e : Element). Of Q e.slot) (sequence-touches frame word body compound-in.0 compound-in.1.0)
      (sequence_last frame word body compound-in.0 compound-in.1.0) (λ last last-in.
      bind-touches (leave_all-touches frame body compound-in.1.0) (λ _. compound_row-touches word last end last-in compound-in.1.1)))

  pub sequence-touches : {Q : ℕ → Type 0} (frame : ℕ) (list : ℕ) (statements : StatementsTree) → Of Q list → Every Q (statements_node statements)
      → Touches Q loose (sequence frame list statements)
  sequence-touches frame list (tree.statement_sequence first others) list-in statements-in =
      bind-touches (statement_step-touches frame first statements-in.0) (λ n. more_statements-touches frame (element list n) others list-in statements-in.1)

  pub more_statements-touches : {Q : ℕ → Type 0} (frame : ℕ) (last : Element) (rest : StatementTrees) → Of Q last.slot
      → Every Q (more_statements_node rest)
      → Touches Q loose (more_statements frame last rest)
  more_statements-touches frame last tree.end_of_statements last-in rest-in = give-touches last
  more_statements-touches {Q = Q} frame last (tree.more_statements semicolon s rest) last-in rest-in =
      bind-gives (λ (e : Element). Of Q e.slot)
      (bind-touches (statement_step-touches frame s rest-in.0.1) (λ n. add_element-touches last semicolon n last-in))
      (added_slot last semicolon (statement_step frame s) rest-in.0.0) (λ next next-in. more_statements-touches frame next rest next-in rest-in.1)

  pub if_statement-touches : {Q : ℕ → Type 0} (frame : ℕ) (label : Option ℕ) (if' : IfTree) → Every Q (if_node if')
      → Touches Q loose (if_statement frame label if')
  if_statement-touches frame label (tree.if_statement word condition then_word s alternative) if-in =
      bind-touches (condition_row-touches frame condition if-in.1.0) (λ c. bind-touches (statement_step-touches frame s if-in.1.1.1.0) (λ n.
      else_statement-touches frame (branching label word c n) alternative if-in.0 if-in.1.1.1.1))

  pub else_statement-touches : {Q : ℕ → Type 0} (frame : ℕ) (b : Branching) (alternative : ElseTree) → Of Q b.word → Every Q (else_node alternative)
      → Touches Q loose (else_statement frame b alternative)
  else_statement-touches frame b tree.without_else b-in alternative-in = if_row-touches b b-in
  else_statement-touches frame b (tree.an_else word s) b-in alternative-in =
      bind-touches (statement_step-touches frame s alternative-in.1) (λ n. if_else_row-touches b n b-in)

  pub case_statement-touches : {Q : ℕ → Type 0} (frame : ℕ) (label : Option ℕ) (case' : CaseTree) → Every Q (case_node case')
      → Touches Q loose (case_statement frame label case')
  case_statement-touches {Q = Q} frame label (tree.case_statement word selector of_word first others semicolon end) case-in =
      bind-gives (λ (s : Selected). s.choosing.list ≡ of_word) (selected-touches frame of_word selector case-in.1.0) (selected_list frame of_word selector)
      (λ s s-list.
      let list-in = subst (Of Q) (sym s-list) case-in.1.1.0 in
      bind-touches (branch_step-touches frame s.choosing of_word of_word first list-in case-in.1.1.0 case-in.1.1.1.0) (λ last.
      bind-touches (more_branches-touches frame s.choosing last others (last_semicolon_node semicolon) list-in case-in.1.1.1.1.0) (λ _.
      case_row-touches label word s.row of_word case-in.0)))

  pub branch_step-touches : {Q : ℕ → Type 0} (frame : ℕ) (c : Choosing) (last : ℕ) (slot : ℕ) (branch : BranchTree)
      → Of Q c.list → Of Q slot → Every Q (branch_node branch) → Touches Q loose (branch_step frame c last slot branch)
  branch_step-touches frame c last slot (tree.a_branch constants colon s) list-in slot-in branch-in =
      bind-touches (statement_step-touches frame s branch-in.1.1) (λ n. choices-touches c n last slot constants list-in slot-in branch-in.0)

  pub more_branches-touches : {Q : ℕ → Type 0} (frame : ℕ) (c : Choosing) (last : ℕ) (rest : BranchTrees) (end : Node)
      → Of Q c.list → Every Q (branches_node rest end) → Touches Q loose (more_branches frame c last rest)
  more_branches-touches frame c last tree.end_of_branches end list-in rest-in = give-touches last
  more_branches-touches frame c last (tree.more_branches semicolon branch rest) end list-in rest-in =
      bind-touches (branch_step-touches frame c last semicolon branch list-in rest-in.0 rest-in.1.0) (λ next.
      more_branches-touches frame c next rest end list-in rest-in.1.1)

  pub repeat_statement-touches : {Q : ℕ → Type 0} (frame : ℕ) (label : Option ℕ) (repeat : RepeatTree) → Every Q (repeat_node repeat)
      → Touches Q loose (repeat_statement frame label repeat)
  repeat_statement-touches {Q = Q} frame label (tree.repeat_statement word body until_word condition) repeat-in =
      bind-touches (reach_all-touches frame body repeat-in.1.0) (λ _.
      bind-gives (λ (e : Element). Of Q e.slot) (sequence-touches frame word body repeat-in.0 repeat-in.1.0)
      (sequence_last frame word body repeat-in.0 repeat-in.1.0) (λ last last-in. bind-touches (leave_all-touches frame body repeat-in.1.0) (λ _.
      bind-touches (link_element-touches last 0 last-in) (λ _. bind-touches (condition_row-touches frame condition repeat-in.1.1.1) (λ c.
      repeat_row-touches label word until_word c repeat-in.1.1.0)))))
