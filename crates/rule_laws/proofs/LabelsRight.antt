-- The labels of a block's statements, and a declared label that marks no statement so far.
use Rattle.std.proofs.Common.{◌++◌, ◌∷◌, ◌≡◌, ◌⊎◌, [], ℕ, List, None, Option, Some, false, inl, inr, map, refl, subst, sym}
use Rattle.grammar.specs.Nodes.{Node, row}
use Rattle.pas_tree.specs.{Denoters.last_semicolon_node, ExpressionTrees.AccessTree, Statements.label_node, declared.statements.Label.Label}
use Rattle.pas_tree.specs.StatementTrees.{BranchTree, BranchTrees, CaseTree, CompoundTree, ElseTree, IfTree, NextAccessTree, PlainTree, RepeatTree}
use Rattle.pas_tree.specs.StatementTrees.{StatementTree, StatementTrees, StatementsTree}
use Rattle.pas_tree.specs.StatementTrees as tree
use Rattle.pas_tree.specs.TreeNodes.{access_node, branch_node, branches_node, case_node, compound_node, else_node, if_node, more_statements_node}
use Rattle.pas_tree.specs.TreeNodes.{next_access_node, plain_node, repeat_node, statement_node, statements_node}
use Rattle.check_steps.specs.Steps.{◌>>=◌, Step, each}
use Rattle.denoter_checker.specs.declared.variants.Choosing.{Choosing}
use Rattle.statement_checker.specs.{Labels.labelled, Labels.leave, Parts.another_record, Parts.first_record, Records.put_with, Sequences.link_element}
use Rattle.statement_checker.specs.Statements.{branch_step, branching, case_statement, compound, element, else_statement, if_statement, label_token}
use Rattle.statement_checker.specs.Statements.{labelled_by, more_branches, more_statements, plain, repeat_statement, sequence, statement_step}
use Rattle.statement_checker.specs.declared.{parts.Opened.Opened, parts.Selected.Selected, sequences.Branching.Branching, sequences.Element.Element}
use Rattle.rule_laws.proofs.{Breaks.in_either, Breaks.in_right, DenoterVariants.choices-touches, Every.Every, Every.Of, Faces.marking, LabelTold.Inside}
use Rattle.rule_laws.proofs.{LabelsTold.each_leads, LabelsTold.first_leads, StatementChoices.case_row-touches, StatementParts.for_ends-touches}
use Rattle.rule_laws.proofs.{StatementParts.selected-touches, StatementRecords.put_with-touches, Touches.Touches, Touches.bind-touches, Touches.give-touches}
use Rattle.rule_laws.proofs.InTurn.{Goes, Wrong, calm_gives, calm_goes, calm_then, gives_calm, goes_calm, goes_gives, goes_then}
use Rattle.rule_laws.proofs.LabelRight.{Aim, IsAim, Seen, calm_of, mark_goes, none_told, rule_of, told_turn, turn_of, unmarking}
use Rattle.rule_laws.proofs.StatementLabels.{jump-touches, labelled-touches, leave-touches, leave_all-touches, reach_all-touches, reach_label-touches}
use Rattle.rule_laws.proofs.StatementParts.{assignment-touches, call_statement-touches, condition_row-touches, first_record-touches, for_begins-touches}
use Rattle.rule_laws.proofs.StatementSequences.{add_element-touches, compound_row-touches, empty-touches, if_else_row-touches, if_row-touches}
use Rattle.rule_laws.proofs.StatementSequences.{link_element-touches, repeat_row-touches, while_row-touches}
use Rattle.rule_laws.proofs.StatementStatements.{added_slot, first_opened, next_opened, next_records-touches, selected_list, sequence_last}
use Rattle.rule_laws.specs.{CaseLaws.late_at, Tokens.Has}
use Rattle.rule_laws.specs.BlockLabels.{branch_labels, branches_labels, case_labels, compound_labels, else_labels, if_labels, in_front, labels_inside}
use Rattle.rule_laws.specs.BlockLabels.{labels_of_statement, more_labels, repeat_labels, sequence_labels}

-- ---- with statements

-- whatever the frames
wrong_in : (p : Aim) (S R : ℕ → Type 0) (done xs : List ℕ) → Wrong (rule_of p S) done xs → Wrong (rule_of p R) done xs
wrong_in p S R done [] w = w
wrong_in p S R done (x ∷ xs) (inl w) = inl w
wrong_in p S R done (x ∷ xs) (inr w) = inr (wrong_in p S R (done ++ x ∷ []) xs w)

with_goes : (p : Aim) → IsAim p → (S : ℕ → Type 0) (f word : ℕ) (a : AccessTree) (ns : List NextAccessTree) (xs : List ℕ) (r : Opened → Step ℕ) → S f
    → Of (Has p.part) word → Every (Has p.part) (access_node a) → Every (Has p.part) (row (map next_access_node ns))
    → ((o : Opened) → Of (Has p.part) o.last.slot → Goes (rule_of p (λ g. S g ⊎ (g ≡ o.frame))) xs (r o))
    → Goes (rule_of p S) xs (first_record f word a >>= λ one. each another_record one ns >>= r)
unfolding ◌>>=◌
with_goes p is S f word a ns xs r f-in word-in a-in ns-in rest = record {
  of = λ done j s.
      let b = late_at 15 p.w.t in
      let d = first_record f word a j in
      let one = first_leads p.w is.there false j f word a (told_turn p done j s.turn) (s.inside f f-in) in
      let first = first_record-touches {Q = Has p.part} {strict = unmarking} refl f word a a-in in
      let e = each another_record d.value ns d.known in
      let slot = first_opened f word a word-in j in
      let next = next_records-touches {Q = Has p.part} {strict = unmarking} refl d.value ns slot ns-in in
      let two = each_leads p.w is.there false d.known d.value ns one.turn one.here in
      let R : ℕ → Type 0 = λ g. S g ⊎ (g ≡ e.value.frame) in
      let seen : Seen p R done e.known = record {
        turn = turn_of p is next done d.known (turn_of p is first done j s.turn);
        inside = λ g g-in. elim g-in [
          | inl old ↦ two.inside g (one.inside g (s.inside g old))
          | inr new ↦ subst (Inside p.w e.known) (sym new) two.here
        ];
      } in
      let g = r e.value e.known in
      let ends = (rest e.value (next_opened d.value ns slot ns-in d.known)).of done e.known seen in
      record {
        turn = record { turn = ends.turn.turn; inside = λ q q-in. ends.turn.inside q (inl q-in) };
        forth = λ i. elim (in_either b d.broken (e.broken ++ g.broken) i) [
          | inl l ↦ absurd (none_told p unmarking refl d.broken (first.told j) l)
          | inr l ↦ elim (in_either b e.broken g.broken l) [
            | inl m ↦ absurd (none_told p unmarking refl e.broken (next.told d.known) m)
            | inr m ↦ wrong_in p R S done xs (ends.forth m)
          ]
        ];
        back = λ w. in_right b d.broken (e.broken ++ g.broken) (in_right b e.broken g.broken (ends.back (wrong_in p S R done xs w)));
      };
}

-- ---- statements

-- a statement that has a label is left
left_behind : (p : Aim) (f : ℕ) (l : Label) (n : ℕ) → Every (Has p.part) (label_node (Some l))
    → Touches (Has p.part) marking (leave f l.number >>= λ _. labelled l.number n)
left_behind p f l n inside = bind-touches (leave-touches f l.number) (λ _. labelled-touches l.number n inside.0)

labelled_goes : (p : Aim) → IsAim p → (S : ℕ → Type 0) (f : ℕ) → S f → (label : Option Label) (m : Step ℕ) (xs : List ℕ)
    → Every (Has p.part) (label_node label) → Goes (rule_of p S) xs m
    → Goes (rule_of p S) (in_front label ++ xs) (labelled_by f label m)
labelled_goes p is S f f-in None m xs inside h = h
labelled_goes p is S f f-in (Some l) m xs inside h =
    goes_then (l.number ∷ []) xs (mark_goes p is S f l.number f-in inside.0)
    (λ _. calm_then xs (calm_of p is S (reach_label-touches {strict = marking} f l.number))
    (λ _. goes_calm xs h (λ n. calm_of p is S (left_behind p f l n inside))))

-- the same between parts
mutual
  statement_goes : (p : Aim) → IsAim p → (S : ℕ → Type 0) (f : ℕ) → S f → (s : StatementTree) → Every (Has p.part) (statement_node s)
      → Goes (rule_of p S) (labels_of_statement s) (statement_step f s)
  statement_goes p is S f f-in (tree.a_statement label s) inside =
      labelled_goes p is S f f-in label (plain f (label_token label) s) (labels_inside s) inside.0 (plain_goes p is S f f-in (label_token label) s inside.1)

  plain_goes : (p : Aim) → IsAim p → (S : ℕ → Type 0) (f : ℕ) → S f → (label : Option ℕ) (s : PlainTree) → Every (Has p.part) (plain_node s)
      → Goes (rule_of p S) (labels_inside s) (plain f label s)
  plain_goes p is S f f-in label tree.an_empty inside = calm_goes (calm_of p is S empty-touches)
  plain_goes p is S f f-in label (tree.an_assignment x) inside = calm_goes (calm_of p is S (assignment-touches refl f label x inside))
  plain_goes p is S f f-in label (tree.a_procedure_call name actuals) inside =
      calm_goes (calm_of p is S (call_statement-touches f label name actuals inside.0 inside.1))
  plain_goes p is S f f-in label (tree.a_goto word target) inside = calm_goes (calm_of p is S (jump-touches f label word target inside.0 inside.1))
  plain_goes p is S f f-in label (tree.a_compound c) inside = compound_goes p is S f f-in c inside
  plain_goes p is S f f-in label (tree.an_if i) inside = if_goes p is S f f-in label i inside
  plain_goes p is S f f-in label (tree.a_case c) inside = case_goes p is S f f-in label c inside
  plain_goes p is S f f-in label (tree.a_repeat r) inside = repeat_goes p is S f f-in label r inside
  plain_goes p is S f f-in label (tree.a_while word condition do_word s) inside =
      calm_then (labels_of_statement s) (calm_of p is S (condition_row-touches f condition inside.1.0)) (λ c.
      goes_calm (labels_of_statement s) (statement_goes p is S f f-in s inside.1.1.1)
      (λ body. calm_of p is S (while_row-touches label word c body inside.0)))
  plain_goes p is S f f-in label (tree.a_for word name becomes initial direction last do_word s) inside =
      calm_then (labels_of_statement s) (calm_of p is S (for_begins-touches f name initial last inside.1.0 inside.1.1.1.0 inside.1.1.1.1.1.0)) (λ b.
      goes_calm (labels_of_statement s) (statement_goes p is S f f-in s inside.1.1.1.1.1.1.1)
      (λ body. calm_of p is S (for_ends-touches label word direction b body inside.0 inside.1.1.1.1.0)))
  plain_goes p is S f f-in label (tree.a_with word first others do_word s) inside =
      with_goes p is S f word first others (labels_of_statement s)
      (λ all. link_element all.last 0 >>= λ _. statement_step all.frame s >>= λ body. put_with label word do_word body)
      f-in inside.0 inside.1.0 inside.1.1.0 (λ all slot.
      calm_then (labels_of_statement s) (calm_of p is (λ g. S g ⊎ (g ≡ all.frame)) (link_element-touches all.last 0 slot)) (λ _.
      goes_calm (labels_of_statement s) (statement_goes p is (λ g. S g ⊎ (g ≡ all.frame)) all.frame (inr refl) s inside.1.1.1.1)
      (λ body. calm_of p is (λ g. S g ⊎ (g ≡ all.frame)) (put_with-touches label word do_word body inside.1.1.1.0))))

  pub compound_goes : (p : Aim) → IsAim p → (S : ℕ → Type 0) (f : ℕ) → S f → (c : CompoundTree) → Every (Has p.part) (compound_node c)
      → Goes (rule_of p S) (compound_labels c) (compound f c)
  compound_goes p is S f f-in (tree.compound_statement word body end) inside =
      calm_then (sequence_labels body) (calm_of p is S (reach_all-touches f body inside.1.0)) (λ _.
      gives_calm (λ (e : Element). Of (Has p.part) e.slot) (sequence_labels body) (sequence_goes p is S f f-in word body inside.0 inside.1.0)
      (sequence_last f word body inside.0 inside.1.0) (λ last slot.
      calm_of p is S (bind-touches (leave_all-touches f body inside.1.0) (λ _. compound_row-touches word last end slot inside.1.1))))

  sequence_goes : (p : Aim) → IsAim p → (S : ℕ → Type 0) (f : ℕ) → S f → (list : ℕ) (s : StatementsTree) → Of (Has p.part) list
      → Every (Has p.part) (statements_node s)
      → Goes (rule_of p S) (sequence_labels s) (sequence f list s)
  sequence_goes p is S f f-in list (tree.statement_sequence first others) slot inside =
      goes_then (labels_of_statement first) (more_labels others) (statement_goes p is S f f-in first inside.0)
      (λ n. more_goes p is S f f-in (element list n) others slot inside.1)

  more_goes : (p : Aim) → IsAim p → (S : ℕ → Type 0) (f : ℕ) → S f → (last : Element) (r : StatementTrees) → Of (Has p.part) last.slot
      → Every (Has p.part) (more_statements_node r)
      → Goes (rule_of p S) (more_labels r) (more_statements f last r)
  more_goes p is S f f-in last tree.end_of_statements slot inside = calm_goes (calm_of p is S (give-touches last))
  more_goes p is S f f-in last (tree.more_statements semicolon s rest) slot inside =
      goes_gives (λ (e : Element). Of (Has p.part) e.slot) (labels_of_statement s) (more_labels rest)
      (goes_calm (labels_of_statement s) (statement_goes p is S f f-in s inside.0.1) (λ n. calm_of p is S (add_element-touches last semicolon n slot)))
      (added_slot last semicolon (statement_step f s) inside.0.0) (λ next next-in. more_goes p is S f f-in next rest next-in inside.1)

  if_goes : (p : Aim) → IsAim p → (S : ℕ → Type 0) (f : ℕ) → S f → (label : Option ℕ) (i : IfTree) → Every (Has p.part) (if_node i)
      → Goes (rule_of p S) (if_labels i) (if_statement f label i)
  if_goes p is S f f-in label (tree.if_statement word condition then_word s alternative) inside =
      calm_then (labels_of_statement s ++ else_labels alternative) (calm_of p is S (condition_row-touches f condition inside.1.0)) (λ c.
      goes_then (labels_of_statement s) (else_labels alternative) (statement_goes p is S f f-in s inside.1.1.1.0)
      (λ n. else_goes p is S f f-in (branching label word c n) alternative inside.0 inside.1.1.1.1))

  else_goes : (p : Aim) → IsAim p → (S : ℕ → Type 0) (f : ℕ) → S f → (b : Branching) (e : ElseTree) → Of (Has p.part) b.word
      → Every (Has p.part) (else_node e)
      → Goes (rule_of p S) (else_labels e) (else_statement f b e)
  else_goes p is S f f-in b tree.without_else word inside = calm_goes (calm_of p is S (if_row-touches b word))
  else_goes p is S f f-in b (tree.an_else else_word s) word inside =
      goes_calm (labels_of_statement s) (statement_goes p is S f f-in s inside.1) (λ n. calm_of p is S (if_else_row-touches b n word))

  case_goes : (p : Aim) → IsAim p → (S : ℕ → Type 0) (f : ℕ) → S f → (label : Option ℕ) (c : CaseTree) → Every (Has p.part) (case_node c)
      → Goes (rule_of p S) (case_labels c) (case_statement f label c)
  case_goes p is S f f-in label (tree.case_statement word selector of_word first others semicolon end) inside =
      calm_gives (λ (x : Selected). x.choosing.list ≡ of_word) (branch_labels first ++ branches_labels others)
      (calm_of p is S (selected-touches f of_word selector inside.1.0)) (selected_list f of_word selector) (λ x list.
      let list-in = subst (Of (Has p.part)) (sym list) inside.1.1.0 in
      goes_then (branch_labels first) (branches_labels others)
      (branch_goes p is S f f-in x.choosing of_word of_word first list-in inside.1.1.0 inside.1.1.1.0) (λ last.
      goes_calm (branches_labels others) (branches_go p is S f f-in x.choosing last others (last_semicolon_node semicolon) list-in inside.1.1.1.1.0)
      (λ _. calm_of p is S (case_row-touches label word x.row of_word inside.0))))

  branch_goes : (p : Aim) → IsAim p → (S : ℕ → Type 0) (f : ℕ) → S f → (c : Choosing) (last slot : ℕ) (b : BranchTree) → Of (Has p.part) c.list
      → Of (Has p.part) slot
      → Every (Has p.part) (branch_node b) → Goes (rule_of p S) (branch_labels b) (branch_step f c last slot b)
  branch_goes p is S f f-in c last slot (tree.a_branch constants colon s) list slot-in inside =
      goes_calm (labels_of_statement s) (statement_goes p is S f f-in s inside.1.1)
      (λ n. calm_of p is S (choices-touches c n last slot constants list slot-in inside.0))

  branches_go : (p : Aim) → IsAim p → (S : ℕ → Type 0) (f : ℕ) → S f → (c : Choosing) (last : ℕ) (r : BranchTrees) (end : Node) → Of (Has p.part) c.list
      → Every (Has p.part) (branches_node r end)
      → Goes (rule_of p S) (branches_labels r) (more_branches f c last r)
  branches_go p is S f f-in c last tree.end_of_branches end list inside = calm_goes (calm_of p is S (give-touches last))
  branches_go p is S f f-in c last (tree.more_branches semicolon b rest) end list inside =
      goes_then (branch_labels b) (branches_labels rest) (branch_goes p is S f f-in c last semicolon b list inside.0 inside.1.0)
      (λ next. branches_go p is S f f-in c next rest end list inside.1.1)

  repeat_goes : (p : Aim) → IsAim p → (S : ℕ → Type 0) (f : ℕ) → S f → (label : Option ℕ) (r : RepeatTree) → Every (Has p.part) (repeat_node r)
      → Goes (rule_of p S) (repeat_labels r) (repeat_statement f label r)
  repeat_goes p is S f f-in label (tree.repeat_statement word body until_word condition) inside =
      calm_then (sequence_labels body) (calm_of p is S (reach_all-touches f body inside.1.0)) (λ _.
      gives_calm (λ (e : Element). Of (Has p.part) e.slot) (sequence_labels body) (sequence_goes p is S f f-in word body inside.0 inside.1.0)
      (sequence_last f word body inside.0 inside.1.0) (λ last slot.
      calm_of p is S (bind-touches (leave_all-touches f body inside.1.0) (λ _. bind-touches (link_element-touches last 0 slot) (λ _.
      bind-touches (condition_row-touches f condition inside.1.1.1) (λ c. repeat_row-touches label word until_word c inside.1.1.0))))))
