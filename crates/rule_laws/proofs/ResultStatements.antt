-- The statements of a function's block, inside of the with statements around them.
use Rattle.std.proofs.Common.{◌++◌, ◌+◌, ◌∷◌, ◌≡◌, ◌≤◌, [], ℕ, Bool, List, None, Option, Some, arith, length, map, refl, subst, sym}
use Rattle.std.proofs.lemmas.List.{length-append}
use Rattle.grammar.specs.Nodes.{Node, leaf, row, spell}
use Rattle.grammar.specs.declared.terminals.Terminal.TheVariants.{WDo, WWith}
use Rattle.pas_tree.specs.{Denoters.last_semicolon_node, ExpressionTrees.AccessTree, Statements.label_node, declared.statements.Label.Label}
use Rattle.pas_tree.specs.StatementTrees.{BranchTree, BranchTrees, CaseTree, CompoundTree, ElseTree, IfTree, NextAccessTree, PlainTree, RepeatTree}
use Rattle.pas_tree.specs.StatementTrees.{StatementTree, StatementTrees, StatementsTree}
use Rattle.pas_tree.specs.StatementTrees as tree
use Rattle.pas_tree.specs.TreeNodes.{access_node, assignment_node, branch_node, branches_node, case_node, compound_node, else_node, if_node}
use Rattle.pas_tree.specs.TreeNodes.{more_statements_node, next_access_node, plain_node, repeat_node, statement_node, statements_node}
use Rattle.check_steps.specs.{Known.Known, Steps.◌>>=◌, Steps.Step, Steps.each}
use Rattle.denoter_checker.specs.declared.variants.Choosing.{Choosing}
use Rattle.decl_checker.specs.Statements.{fields_in}
use Rattle.statement_checker.specs.{Parts.another_record, Parts.first_record, Records.put_with, Sequences.link_element}
use Rattle.statement_checker.specs.Statements.{branch_step, branching, case_statement, compound, element, else_statement, if_statement, label_token}
use Rattle.statement_checker.specs.Statements.{labelled_by, more_branches, more_statements, plain, repeat_statement, sequence, statement_step}
use Rattle.statement_checker.specs.declared.{parts.Opened.Opened, parts.Selected.Selected, sequences.Branching.Branching, sequences.Element.Element}
use Rattle.rule_laws.proofs.{DenoterVariants.choices-touches, Every.Every, Every.Of, Faces.loose, ResultRecords.each_enters, ResultRecords.first_enters}
use Rattle.rule_laws.proofs.{ResultSets.sets_gives, ResultSets.sets_then, ResultTargets.assignment_sets, ResultTurns.Spot, StatementChoices.case_row-touches}
use Rattle.rule_laws.proofs.{StatementLabels.reach_label-touches, StatementParts.selected-touches, StatementRecords.put_with-touches}
use Rattle.rule_laws.proofs.ResultSets.{PartAt, Room, Sets, calm_gives, calm_then, gives_calm, room_left, room_right, search_of, sets_after, sets_calm}
use Rattle.rule_laws.proofs.StatementLabels.{jump-touches, labelled-touches, leave-touches, leave_all-touches, mark-touches, reach_all-touches}
use Rattle.rule_laws.proofs.StatementParts.{call_statement-touches, condition_row-touches, first_record-touches, for_begins-touches, for_ends-touches}
use Rattle.rule_laws.proofs.StatementSequences.{add_element-touches, compound_row-touches, empty-touches, if_else_row-touches, if_row-touches}
use Rattle.rule_laws.proofs.StatementSequences.{link_element-touches, repeat_row-touches, while_row-touches}
use Rattle.rule_laws.proofs.StatementStatements.{added_slot, first_opened, next_opened, next_records-touches, selected_list, sequence_last}
use Rattle.rule_laws.proofs.Touches.{bind-touches, give-touches, longer_still}
use Rattle.rule_laws.specs.{Tokens.Has, WithRecords.access_type, WithRecords.and_record, WithRecords.inside_access, WithRecords.inside_accesses}
use Rattle.rule_laws.specs.FunctionAssignments.{assigns_in, assigns_inside, branch_assigns, branches_assign, case_assigns, compound_assigns, else_assigns}
use Rattle.rule_laws.specs.FunctionAssignments.{if_assigns, more_assign, repeat_assigns, sequence_assigns}

-- ---- the records of a with statement

next_count : (ns : List NextAccessTree) → length ns ≤ length (spell (row (map next_access_node ns)))
next_count [] = omega arith
next_count (n ∷ ns) =
    let more = next_count ns in
    let both : length (spell (access_node n.access) ++ spell (row (map next_access_node ns)))
    ≡ length (spell (access_node n.access)) + length (spell (row (map next_access_node ns)))
    = length-append (spell (access_node n.access)) (spell (row (map next_access_node ns))) in
    omega (arith, more, both)

one_more : (o : Option ℕ) (rs : List ℕ) → length (and_record o rs) ≤ length rs + 1
one_more None rs = omega arith
one_more (Some region) rs = omega arith

inside_count : (k : Known) (frame : ℕ) (rs : List ℕ) (ns : List NextAccessTree) → length (inside_accesses k frame rs ns) ≤ length rs + length ns
inside_count k frame rs [] = omega arith
inside_count k frame rs (n ∷ ns) =
    let one : length (inside_access k frame rs n.access) ≤ length rs + 1 = one_more (fields_in (access_type k frame rs n.access)) rs in
    let more = inside_count k frame (inside_access k frame rs n.access) ns in
    omega (arith, one, more)

-- the statement inside has room for the records around it
room_inside : (p : Spot) (k : Known) (frame : ℕ) (rs : List ℕ) (word : ℕ) (first : AccessTree) (others : List NextAccessTree) (do_word : ℕ) (s : StatementTree)
    → Room p rs (plain_node (tree.a_with word first others do_word s))
    → Room p (inside_accesses k frame (inside_access k frame rs first) others) (statement_node s)
room_inside p k frame rs word first others do_word s r =
    let own = spell (statement_node s) in
    let after = spell (leaf WDo do_word) ++ own in
    let next = spell (row (map next_access_node others)) in
    let one = spell (access_node first) in
    let word' = spell (leaf WWith word) in
    let single : length word' ≡ 1 = refl in
    let a = length-append (spell (leaf WDo do_word)) own in
    let b = length-append next after in
    let c = length-append one (next ++ after) in
    let d = length-append word' (one ++ (next ++ after)) in
    let enough : length rs + length (word' ++ (one ++ (next ++ after))) ≤ length (spell p.part) = r.enough in
    let count = next_count others in
    let opened : length (inside_access k frame rs first) ≤ length rs + 1 = one_more (fields_in (access_type k frame rs first)) rs in
    let inside = inside_count k frame (inside_access k frame rs first) others in
    record { enough = omega (arith, single, a, b, c, d, enough, count, opened, inside) }

with_sets : (a : PartAt) (rs : List ℕ) (f word : ℕ) (first : AccessTree) (others : List NextAccessTree) (b : Bool) (r : Opened → Step ℕ)
    → Of (Has a.p.part) word → Every (Has a.p.part) (access_node first) → Every (Has a.p.part) (row (map next_access_node others))
    → ((o : Opened) → Of (Has a.p.part) o.last.slot
    → Sets a (inside_accesses a.p.k a.block (inside_access a.p.k a.block rs first) others) o.frame b (r o))
    → Sets a rs f b (first_record f word first >>= λ one. each another_record one others >>= r)
unfolding ◌>>=◌
with_sets a rs f word first others b r word-in first-in others-in rest = record {
  of = λ seen j t l.
      let d = first_record f word first j in
      let e = each another_record d.value others d.known in
      let i = (r e.value e.known).known in
      let slot = first_opened f word first word-in j in
      let one = first_enters a.p a.is seen a.block a.below rs j f word first first-in t l in
      let two = each_enters a.p a.is seen a.block a.below (inside_access a.p.k a.block rs first) d.known d.value others slot others-in one.turn one.leads in
      let ends = (rest e.value (next_opened d.value others slot others-in d.known)).of seen e.known two.turn two.leads in
      let here = ((first_record-touches {strict = loose} refl f word first first-in).same j).frames in
      let there = ((next_records-touches {strict = loose} refl d.value others slot others-in).same d.known).frames in
      record {
        turn = ends.turn;
        longer = longer_still j.frames d.known.frames i.frames here (longer_still d.known.frames e.known.frames i.frames there ends.longer);
      };
}

-- ---- statements

labelled_sets : (a : PartAt) (rs : List ℕ) (f : ℕ) (label : Option Label) (m : Step ℕ) (b : Bool) → Every (Has a.p.part) (label_node label) → Sets a rs f b m
    → Sets a rs f b (labelled_by f label m)
labelled_sets a rs f None m b inside h = h
labelled_sets a rs f (Some l) m b inside h =
    calm_then (mark-touches refl f l.number inside.0) (λ _.
    calm_then (reach_label-touches f l.number) (λ _.
    sets_after h (λ n. bind-touches (leave-touches f l.number) (λ _. labelled-touches l.number n inside.0))))

mutual
  statement_sets : (a : PartAt) (rs : List ℕ) (f : ℕ) (s : StatementTree) → Every (Has a.p.part) (statement_node s) → Room a.p rs (statement_node s)
      → Sets a rs f (assigns_in (search_of a) rs s) (statement_step f s)
  statement_sets a rs f (tree.a_statement label s) inside room =
      labelled_sets a rs f label (plain f (label_token label) s) (assigns_inside (search_of a) rs s) inside.0
      (plain_sets a rs f (label_token label) s inside.1 (room_right room))

  plain_sets : (a : PartAt) (rs : List ℕ) (f : ℕ) (label : Option ℕ) (s : PlainTree) → Every (Has a.p.part) (plain_node s) → Room a.p rs (plain_node s)
      → Sets a rs f (assigns_inside (search_of a) rs s) (plain f label s)
  plain_sets a rs f label tree.an_empty inside room = sets_calm a rs f empty-touches
  plain_sets a rs f label (tree.an_assignment x) inside room = assignment_sets a rs f label x (assignment_node x) room inside
  plain_sets a rs f label (tree.a_procedure_call name actuals) inside room =
      sets_calm a rs f (call_statement-touches f label name actuals inside.0 inside.1)
  plain_sets a rs f label (tree.a_goto word target) inside room = sets_calm a rs f (jump-touches f label word target inside.0 inside.1)
  plain_sets a rs f label (tree.a_compound c) inside room = compound_sets a rs f c inside room
  plain_sets a rs f label (tree.an_if i) inside room = if_sets a rs f label i inside room
  plain_sets a rs f label (tree.a_case c) inside room = case_sets a rs f label c inside room
  plain_sets a rs f label (tree.a_repeat r) inside room = repeat_sets a rs f label r inside room
  plain_sets a rs f label (tree.a_while word condition do_word s) inside room =
      calm_then (condition_row-touches f condition inside.1.0) (λ c.
      sets_after (statement_sets a rs f s inside.1.1.1 (room_right (room_right (room_right room))))
      (λ body. while_row-touches label word c body inside.0))
  plain_sets a rs f label (tree.a_for word name becomes initial direction last do_word s) inside room =
      let after = room_right (room_right (room_right (room_right room))) in
      calm_then (for_begins-touches f name initial last inside.1.0 inside.1.1.1.0 inside.1.1.1.1.1.0) (λ b.
      sets_after (statement_sets a rs f s inside.1.1.1.1.1.1.1 (room_right (room_right (room_right after))))
      (λ body. for_ends-touches label word direction b body inside.0 inside.1.1.1.1.0))
  plain_sets a rs f label (tree.a_with word first others do_word s) inside room =
      let inner = inside_accesses a.p.k a.block (inside_access a.p.k a.block rs first) others in
      with_sets a rs f word first others (assigns_in (search_of a) inner s)
      (λ all. link_element all.last 0 >>= λ _. statement_step all.frame s >>= λ body. put_with label word do_word body)
      inside.0 inside.1.0 inside.1.1.0 (λ all slot.
      calm_then (link_element-touches all.last 0 slot) (λ _.
      sets_after (statement_sets a inner all.frame s inside.1.1.1.1 (room_inside a.p a.p.k a.block rs word first others do_word s room))
      (λ body. put_with-touches label word do_word body inside.1.1.1.0)))

  pub compound_sets : (a : PartAt) (rs : List ℕ) (f : ℕ) (c : CompoundTree) → Every (Has a.p.part) (compound_node c) → Room a.p rs (compound_node c)
      → Sets a rs f (compound_assigns (search_of a) rs c) (compound f c)
  compound_sets a rs f (tree.compound_statement word body end) inside room =
      calm_then (reach_all-touches f body inside.1.0) (λ _.
      gives_calm (λ (e : Element). Of (Has a.p.part) e.slot) (sequence_sets a rs f word body inside.0 inside.1.0 (room_left (room_right room)))
      (sequence_last f word body inside.0 inside.1.0) (λ last slot.
      bind-touches (leave_all-touches f body inside.1.0) (λ _. compound_row-touches word last end slot inside.1.1)))

  sequence_sets : (a : PartAt) (rs : List ℕ) (f : ℕ) (list : ℕ) (s : StatementsTree) → Of (Has a.p.part) list
      → Every (Has a.p.part) (statements_node s) → Room a.p rs (statements_node s)
      → Sets a rs f (sequence_assigns (search_of a) rs s) (sequence f list s)
  sequence_sets a rs f list (tree.statement_sequence first others) slot inside room =
      sets_then (statement_sets a rs f first inside.0 (room_left room))
      (λ n. more_sets a rs f (element list n) others slot inside.1 (room_right room))

  more_sets : (a : PartAt) (rs : List ℕ) (f : ℕ) (last : Element) (r : StatementTrees) → Of (Has a.p.part) last.slot
      → Every (Has a.p.part) (more_statements_node r) → Room a.p rs (more_statements_node r)
      → Sets a rs f (more_assign (search_of a) rs r) (more_statements f last r)
  more_sets a rs f last tree.end_of_statements slot inside room = sets_calm a rs f (give-touches last)
  more_sets a rs f last (tree.more_statements semicolon s rest) slot inside room =
      sets_gives (λ (e : Element). Of (Has a.p.part) e.slot)
      (sets_after (statement_sets a rs f s inside.0.1 (room_right (room_left room))) (λ n. add_element-touches last semicolon n slot))
      (added_slot last semicolon (statement_step f s) inside.0.0)
      (λ next next-in. more_sets a rs f next rest next-in inside.1 (room_right room))

  if_sets : (a : PartAt) (rs : List ℕ) (f : ℕ) (label : Option ℕ) (i : IfTree) → Every (Has a.p.part) (if_node i) → Room a.p rs (if_node i)
      → Sets a rs f (if_assigns (search_of a) rs i) (if_statement f label i)
  if_sets a rs f label (tree.if_statement word condition then_word s alternative) inside room =
      let after = room_right (room_right (room_right room)) in
      calm_then (condition_row-touches f condition inside.1.0) (λ c.
      sets_then (statement_sets a rs f s inside.1.1.1.0 (room_left after))
      (λ n. else_sets a rs f (branching label word c n) alternative inside.0 inside.1.1.1.1 (room_right after)))

  else_sets : (a : PartAt) (rs : List ℕ) (f : ℕ) (b : Branching) (e : ElseTree) → Of (Has a.p.part) b.word
      → Every (Has a.p.part) (else_node e) → Room a.p rs (else_node e)
      → Sets a rs f (else_assigns (search_of a) rs e) (else_statement f b e)
  else_sets a rs f b tree.without_else word inside room = sets_calm a rs f (if_row-touches b word)
  else_sets a rs f b (tree.an_else else_word s) word inside room =
      sets_after (statement_sets a rs f s inside.1 (room_right room)) (λ n. if_else_row-touches b n word)

  case_sets : (a : PartAt) (rs : List ℕ) (f : ℕ) (label : Option ℕ) (c : CaseTree) → Every (Has a.p.part) (case_node c) → Room a.p rs (case_node c)
      → Sets a rs f (case_assigns (search_of a) rs c) (case_statement f label c)
  case_sets a rs f label (tree.case_statement word selector of_word first others semicolon end) inside room =
      let after = room_right (room_right (room_right room)) in
      calm_gives (λ (x : Selected). x.choosing.list ≡ of_word)
      (selected-touches f of_word selector inside.1.0) (selected_list f of_word selector) (λ x list.
      let list-in = subst (Of (Has a.p.part)) (sym list) inside.1.1.0 in
      sets_then (branch_sets a rs f x.choosing of_word of_word first list-in inside.1.1.0 inside.1.1.1.0 (room_left after)) (λ last.
      sets_after (branches_set a rs f x.choosing last others (last_semicolon_node semicolon) list-in inside.1.1.1.1.0 (room_left (room_right after)))
      (λ _. case_row-touches label word x.row of_word inside.0)))

  branch_sets : (a : PartAt) (rs : List ℕ) (f : ℕ) (c : Choosing) (last slot : ℕ) (b : BranchTree) → Of (Has a.p.part) c.list → Of (Has a.p.part) slot
      → Every (Has a.p.part) (branch_node b) → Room a.p rs (branch_node b)
      → Sets a rs f (branch_assigns (search_of a) rs b) (branch_step f c last slot b)
  branch_sets a rs f c last slot (tree.a_branch constants colon s) list slot-in inside room =
      sets_after (statement_sets a rs f s inside.1.1 (room_right (room_right room)))
      (λ n. choices-touches c n last slot constants list slot-in inside.0)

  branches_set : (a : PartAt) (rs : List ℕ) (f : ℕ) (c : Choosing) (last : ℕ) (r : BranchTrees) (end : Node) → Of (Has a.p.part) c.list
      → Every (Has a.p.part) (branches_node r end) → Room a.p rs (branches_node r end)
      → Sets a rs f (branches_assign (search_of a) rs r) (more_branches f c last r)
  branches_set a rs f c last tree.end_of_branches end list inside room = sets_calm a rs f (give-touches last)
  branches_set a rs f c last (tree.more_branches semicolon b rest) end list inside room =
      sets_then (branch_sets a rs f c last semicolon b list inside.0 inside.1.0 (room_left (room_right room)))
      (λ next. branches_set a rs f c next rest end list inside.1.1 (room_right (room_right room)))

  repeat_sets : (a : PartAt) (rs : List ℕ) (f : ℕ) (label : Option ℕ) (r : RepeatTree) → Every (Has a.p.part) (repeat_node r) → Room a.p rs (repeat_node r)
      → Sets a rs f (repeat_assigns (search_of a) rs r) (repeat_statement f label r)
  repeat_sets a rs f label (tree.repeat_statement word body until_word condition) inside room =
      calm_then (reach_all-touches f body inside.1.0) (λ _.
      gives_calm (λ (e : Element). Of (Has a.p.part) e.slot) (sequence_sets a rs f word body inside.0 inside.1.0 (room_left (room_right room)))
      (sequence_last f word body inside.0 inside.1.0) (λ last slot.
      bind-touches (leave_all-touches f body inside.1.0) (λ _. bind-touches (link_element-touches last 0 slot) (λ _.
      bind-touches (condition_row-touches f condition inside.1.1.1) (λ c. repeat_row-touches label word until_word c inside.1.1.0)))))
