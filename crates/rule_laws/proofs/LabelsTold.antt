-- Which labels of a block's statements are told at the least.
use Rattle.std.proofs.Common.{◌++◌, ◌∙◌, ◌∷◌, ◌≡◌, ◌⊎◌, [], ℕ, Bool, List, None, Option, Some, ap, arith, inl, inr, length, refl, subst, sym}
use Rattle.std.proofs.lemmas.Option.{none-some}
use Rattle.pas_tree.specs.{ExpressionTrees.AccessTree, Operators.direction_node, declared.statements.Label.Label}
use Rattle.pas_tree.specs.StatementTrees.{BranchTree, BranchTrees, CaseTree, CompoundTree, ElseTree, IfTree, NextAccessTree, PlainTree, RepeatTree}
use Rattle.pas_tree.specs.StatementTrees.{StatementTree, StatementTrees, StatementsTree}
use Rattle.pas_tree.specs.StatementTrees as tree
use Rattle.pas_tree.specs.TreeNodes.{access_node, assignment_node, call_node, constants_node, expression_node, statements_node}
use Rattle.core_program.specs.ProgramRows.{type_in}
use Rattle.check_steps.specs.{Regions.RegionRows, Regions.declared_in, Regions.or_else, declared.regions.Frame.Frame}
use Rattle.check_steps.specs.Known.{Known, and_frame, find_label_from, frame_at, row_at, type_at}
use Rattle.check_steps.specs.Steps.{◌>>=◌, Step, ask, each, extend, give, look}
use Rattle.kind_checker.specs.declared.shapes.ExpressionType.{ExpressionType}
use Rattle.denoter_checker.specs.declared.variants.Choosing.{Choosing}
use Rattle.decl_checker.specs.Statements.{fields_in, inside_of, one_more_with, open_fields}
use Rattle.expression_checker.specs.{Expressions.access, Selectors.type_row, declared.typed.Typed.Typed}
use Rattle.statement_checker.specs.{Labels.labelled, Labels.leave, Parts.another_record, Parts.first_record, Records.inside_record, Records.put_with}
use Rattle.statement_checker.specs.Sequences.{add_element, link_element}
use Rattle.statement_checker.specs.Statements.{branch_step, branching, case_statement, compound, element, else_statement, if_statement, label_token}
use Rattle.statement_checker.specs.Statements.{labelled_by, more_branches, more_statements, plain, repeat_statement, sequence, statement_step}
use Rattle.statement_checker.specs.declared.{parts.Opened.Opened, sequences.Branching.Branching, sequences.Element.Element}
use Rattle.rule_laws.proofs.{Alike.type_said, Breaks.in_right, DenoterVariants.choices-touches, ExpressionExpressions.access-touches, Faces.marking}
use Rattle.rule_laws.proofs.{LabelTold.still_then, LabelTold.tells_still, LabelTold.tells_then, StatementChoices.case_row-touches}
use Rattle.rule_laws.proofs.{StatementParts.selected-touches, StatementRecords.put_with-touches, Touches.Touches, Touches.bind-touches, Touches.give-touches}
use Rattle.rule_laws.proofs.LabelTold.{Anywhere, Inside, IsWhere, Seen, Still, Tells, Turn, Where, anywhere, everywhere, mark_tells, still_of, still_tells}
use Rattle.rule_laws.proofs.Outward.{finds_more, frame_before, frame_last, one_longer, outward_more, outward_new, outward_there}
use Rattle.rule_laws.proofs.StatementLabels.{jump-touches, labelled-touches, leave-touches, leave_all-touches, reach_all-touches, reach_label-touches}
use Rattle.rule_laws.proofs.StatementParts.{assignment-touches, call_statement-touches, condition_row-touches, for_begins-touches, for_ends-touches}
use Rattle.rule_laws.proofs.StatementSequences.{add_element-touches, compound_row-touches, empty-touches, if_else_row-touches, if_row-touches}
use Rattle.rule_laws.proofs.StatementSequences.{link_element-touches, repeat_row-touches, while_row-touches}
use Rattle.rule_laws.specs.{BlockLabels.labels_of_statement, BlockLabels.more_labels, BlockLabels.repeat_labels, BlockLabels.sequence_labels, CaseLaws.late_at}
use Rattle.rule_laws.specs.BlockLabels.{branch_labels, branches_labels, case_labels, compound_labels, else_labels, if_labels, in_front, labels_inside}

-- ---- a frame of a record's fields

inside_before : (p : Where) (j : Known) (x : Frame) (g : ℕ) → Inside p j g → Inside p (and_frame j x) g
inside_before p j x g h =
    let o = h.outward in
    let l = one_longer j.frames x in
    let few = o.few in
    record {
      outward = outward_more j.frames x g o;
      level = ap (λ (f : Frame). f.level) (frame_before j.frames x g (outward_there j.frames g o)) ∙ h.level;
      finds = λ v. finds_more j x v (Some g) o.steps (length (j.frames ++ x ∷ [])) (length j.frames) o.ends (omega (arith, few, l)) few ∙ h.finds v;
    }

-- the frame itself
inside_new : (p : Where) (j : Known) (f region withs : ℕ) → Inside p j f → ((v : ℕ) → declared_in j.regions region v ≡ None)
    → Inside p (and_frame j (record { region = region; outer = Some f; level = (frame_at j f).level; withs = withs })) (length j.frames)
inside_new p j f region withs here none =
    let x : Frame = record { region = region; outer = Some f; level = (frame_at j f).level; withs = withs } in
    let l = one_longer j.frames x in
    let last = frame_last j.frames x in
    let o = here.outward in
    record {
      outward = outward_new j.frames x f refl o;
      level = ap (λ (g : Frame). g.level) last ∙ here.level;
      finds = λ v.
          ap (λ n. find_label_from n (and_frame j x) (Some (length j.frames)) v) l
          ∙ ap (λ (g : Frame). or_else (declared_in j.regions g.region v) (find_label_from (length j.frames) (and_frame j x) g.outer v)) last
          ∙ ap (λ o. or_else o (find_label_from (length j.frames) (and_frame j x) (Some f) v)) (none v)
          ∙ finds_more j x v (Some f) o.steps (length j.frames) (length j.frames) o.ends o.few o.few
          ∙ here.finds v;
    }

-- ---- records

types_before : (p : Where) (s : Bool) (j : Known) → Turn p s j → (n region : ℕ) → fields_in (type_at j n) ≡ Some region
    → fields_in (type_at p.k n) ≡ Some region
types_before p s j t n region e = elim (t.sayings n) [
  | inl nothing ↦
      let none : type_at j n ≡ None = sym (type_said (row_at j n)) ∙ ap type_in nothing in
      absurd (none-some region (sym (ap fields_in none) ∙ e))
  | inr same ↦ ap fields_in (sym (type_said (row_at p.k n)) ∙ sym (ap type_in same) ∙ type_said (row_at j n)) ∙ e
]

no_labels : (p : Where) → IsWhere p → (s : Bool) (j : Known) → Turn p s j → (of' : ExpressionType) (region : ℕ)
    → fields_in (type_row j of') ≡ Some region → (v : ℕ) → declared_in j.regions region v ≡ None
no_labels p is s j t (ExpressionType.Of n) region e v =
    ap (λ (rs : List RegionRows). declared_in rs region v) t.regions ∙ is.records n region v (types_before p s j t n region e)
no_labels p is s j t ExpressionType.Unknown region e v = absurd (none-some region e)
no_labels p is s j t ExpressionType.Nil region e v = absurd (none-some region e)
no_labels p is s j t (ExpressionType.Set host packing) region e v = absurd (none-some region e)
no_labels p is s j t (ExpressionType.Text n) region e v = absurd (none-some region e)

-- what a step that leads into a record leaves
pub record Leads (p : Where) (s : Bool) (j i : Known) (inner : ℕ) : Type 0 where
  pub turn : Turn p s i
  pub inside : (g : ℕ) → Inside p j g → Inside p i g
  pub here : Inside p i inner

leads_by : (p : Where) (s : Bool) (j : Known) (f : ℕ) → Turn p s j → Inside p j f → (o : Option ℕ)
    → ((region : ℕ) → o ≡ Some region → (v : ℕ) → declared_in j.regions region v ≡ None)
    → let d = inside_of f o j in Leads p s j d.known d.value
unfolding give open_fields look extend ◌>>=◌
leads_by p s j f t here None none = record { turn = t; inside = λ g h. h; here = here }
leads_by p s j f t here (Some region) none =
    let w = one_more_with (frame_at j f).withs in
    let x : Frame = record { region = region; outer = Some f; level = (frame_at j f).level; withs = w } in
    record {
      turn = record { words = t.words; regions = t.regions; sayings = t.sayings; spent = t.spent };
      inside = inside_before p j x;
      here = inside_new p j f region w here (none region refl);
    }

record_leads : (p : Where) → IsWhere p → (s : Bool) (j : Known) (f first : ℕ) (v : Typed) → Turn p s j → Inside p j f
    → let d = inside_record f first v j in Leads p s j d.known d.value
unfolding inside_record look ◌>>=◌ ask
record_leads p is s j f first v t here = leads_by p s j f t here (fields_in (type_row j v.of)) (λ region e. no_labels p is s j t v.of region e)

-- after a step that leaves labels and frames, and before one
then_leads : (p : Where) (s : Bool) {A : Type 0} {m : Step A} → Still p m → (j i : Known) (inner : ℕ) → Turn p s j
    → Leads p s (m j).known i inner → Leads p s j i inner
then_leads p s still j i inner t l = record {
  turn = l.turn;
  inside = λ g h. l.inside g (still.inside j t.regions g h);
  here = l.here;
}

leads_then : (p : Where) (s : Bool) {A : Type 0} {m : Step A} → Still p m → (j i : Known) (inner : ℕ) → Leads p s j i inner
    → Leads p s j (m i).known inner
leads_then p s still j i inner l = record {
  turn = still.turn s i l.turn;
  inside = λ g h. still.inside i l.turn.regions g (l.inside g h);
  here = still.inside i l.turn.regions inner l.here;
}

leads_join : (p : Where) (s : Bool) (j i h : Known) (one two : ℕ) → Leads p s j i one → Leads p s i h two → Leads p s j h two
leads_join p s j i h one two a b = record { turn = b.turn; inside = λ g q. b.inside g (a.inside g q); here = b.here }

-- ---- the records of a with statement

pub first_leads : (p : Where) → IsWhere p → (s : Bool) (j : Known) (f word : ℕ) (a : AccessTree) → Turn p s j → Inside p j f
    → let d = first_record f word a j in Leads p s j d.known d.value.frame
unfolding first_record ◌>>=◌ give
first_leads p is s j f word a t here =
    let still = still_of p (access-touches {strict = marking} f a (everywhere (access_node a))) in
    let v = access f a j in
    let d = inside_record f a.name v.value v.known in
    then_leads p s still j d.known d.value t
    (record_leads p is s v.known f a.name v.value (still.turn s j t) (still.inside j t.regions f here))

abbrev opened : ℕ → Element → Opened
opened frame last = record { frame = frame; last = last }

next_leads : (p : Where) → IsWhere p → (s : Bool) (j : Known) (o : Opened) (n : NextAccessTree) → Turn p s j → Inside p j o.frame
    → let d = another_record o n j in Leads p s j d.known d.value.frame
unfolding another_record ◌>>=◌ give
next_leads p is s j o n t here =
    let still = still_of p (access-touches {strict = marking} o.frame n.access (everywhere (access_node n.access))) in
    let v = access o.frame n.access j in
    let d = inside_record o.frame n.access.name v.value v.known in
    let added : Still p (add_element o.last n.comma v.value.row >>= λ last. give (opened d.value last)) =
    still_of p (bind-touches (add_element-touches {strict = marking} o.last n.comma v.value.row (anywhere _)) (λ last. give-touches (opened d.value last))) in
    let e = add_element o.last n.comma v.value.row d.known in
    then_leads p s still j e.known d.value t
    (leads_then p s added v.known d.known d.value
    (record_leads p is s v.known o.frame n.access.name v.value (still.turn s j t) (still.inside j t.regions o.frame here)))

pub each_leads : (p : Where) → IsWhere p → (s : Bool) (j : Known) (o : Opened) (ns : List NextAccessTree) → Turn p s j → Inside p j o.frame
    → let d = each another_record o ns j in Leads p s j d.known d.value.frame
unfolding ◌>>=◌ give
each_leads p is s j o [] t here = record { turn = t; inside = λ g h. h; here = here }
each_leads p is s j o (n ∷ ns) t here =
    let d = another_record o n j in
    let one = next_leads p is s j o n t here in
    let e = each another_record d.value ns d.known in
    leads_join p s j d.known e.known d.value.frame e.value.frame one (each_leads p is s d.known d.value ns one.turn one.here)

-- a with statement goes over the labels inside of it
with_tells : (p : Where) → IsWhere p → (S : ℕ → Type 0) (f word : ℕ) (a : AccessTree) (ns : List NextAccessTree) (xs : List ℕ) (r : Opened → Step ℕ) → S f
    → ((o : Opened) → Tells p (λ g. S g ⊎ (g ≡ o.frame)) xs (r o))
    → Tells p S xs (first_record f word a >>= λ one. each another_record one ns >>= r)
unfolding ◌>>=◌
with_tells p is S f word a ns xs r f-in rest = record {
  of = λ s j h.
      let b = late_at 15 p.t in
      let d = first_record f word a j in
      let one = first_leads p is s j f word a h.turn (h.inside f f-in) in
      let e = each another_record d.value ns d.known in
      let two = each_leads p is s d.known d.value ns one.turn one.here in
      let R : ℕ → Type 0 = λ g. S g ⊎ (g ≡ e.value.frame) in
      let seen : Seen p R s e.known = record {
        turn = two.turn;
        inside = λ g g-in. elim g-in [
          | inl old ↦ two.inside g (one.inside g (h.inside g old))
          | inr new ↦ subst (Inside p e.known) (sym new) two.here
        ];
      } in
      let g = r e.value e.known in
      let ends = (rest e.value).of s e.known seen in
      record {
        seen = record { turn = ends.seen.turn; inside = λ q q-in. ends.seen.inside q (inl q-in) };
        told = λ w. in_right b d.broken (e.broken ++ g.broken) (in_right b e.broken g.broken (ends.told w));
      };
}

-- ---- statements

-- a statement that has a label is left
left_behind : (p : Where) (f : ℕ) (l : Label) (n : ℕ) → Touches Anywhere marking (leave f l.number >>= λ _. labelled l.number n)
left_behind p f l n = bind-touches (leave-touches f l.number) (λ _. labelled-touches l.number n (anywhere _))

labelled_tells : (p : Where) (S : ℕ → Type 0) (f : ℕ) → S f → (label : Option Label) (m : Step ℕ) (xs : List ℕ) → Tells p S xs m
    → Tells p S (in_front label ++ xs) (labelled_by f label m)
labelled_tells p S f f-in None m xs h = h
labelled_tells p S f f-in (Some l) m xs h =
    tells_then (l.number ∷ []) xs (mark_tells p S f l.number f-in)
    (λ _. still_then xs (still_of p (reach_label-touches {strict = marking} f l.number))
    (λ _. tells_still xs h (λ n. still_of p (left_behind p f l n))))

mutual
  statement_tells : (p : Where) → IsWhere p → (S : ℕ → Type 0) (f : ℕ) → S f → (s : StatementTree) → Tells p S (labels_of_statement s) (statement_step f s)
  statement_tells p is S f f-in (tree.a_statement label s) =
      labelled_tells p S f f-in label (plain f (label_token label) s) (labels_inside s) (plain_tells p is S f f-in (label_token label) s)

  plain_tells : (p : Where) → IsWhere p → (S : ℕ → Type 0) (f : ℕ) → S f → (label : Option ℕ) (s : PlainTree) → Tells p S (labels_inside s) (plain f label s)
  plain_tells p is S f f-in label tree.an_empty = still_tells (still_of p empty-touches)
  plain_tells p is S f f-in label (tree.an_assignment x) = still_tells (still_of p (assignment-touches refl f label x (everywhere (assignment_node x))))
  plain_tells p is S f f-in label (tree.a_procedure_call name actuals) =
      still_tells (still_of p (call_statement-touches f label name actuals (anywhere name) (everywhere (call_node actuals))))
  plain_tells p is S f f-in label (tree.a_goto word target) = still_tells (still_of p (jump-touches f label word target (anywhere word) (anywhere target)))
  plain_tells p is S f f-in label (tree.a_compound c) = compound_tells p is S f f-in c
  plain_tells p is S f f-in label (tree.an_if i) = if_tells p is S f f-in label i
  plain_tells p is S f f-in label (tree.a_case c) = case_tells p is S f f-in label c
  plain_tells p is S f f-in label (tree.a_repeat r) = repeat_tells p is S f f-in label r
  plain_tells p is S f f-in label (tree.a_while word condition do_word s) =
      still_then (labels_of_statement s) (still_of p (condition_row-touches f condition (everywhere (expression_node condition)))) (λ c.
      tells_still (labels_of_statement s) (statement_tells p is S f f-in s) (λ body. still_of p (while_row-touches label word c body (anywhere word))))
  plain_tells p is S f f-in label (tree.a_for word name becomes initial direction last do_word s) =
      still_then (labels_of_statement s) (still_of p (for_begins-touches f name initial last (anywhere name) (everywhere (expression_node initial))
      (everywhere (expression_node last)))) (λ b.
      tells_still (labels_of_statement s) (statement_tells p is S f f-in s)
      (λ body. still_of p (for_ends-touches label word direction b body (anywhere word) (everywhere (direction_node direction)))))
  plain_tells p is S f f-in label (tree.a_with word first others do_word s) =
      with_tells p is S f word first others (labels_of_statement s)
      (λ all. link_element all.last 0 >>= λ _. statement_step all.frame s >>= λ body. put_with label word do_word body)
      f-in (λ all.
      still_then (labels_of_statement s) (still_of p (link_element-touches all.last 0 (anywhere _))) (λ _.
      tells_still (labels_of_statement s) (statement_tells p is (λ g. S g ⊎ (g ≡ all.frame)) all.frame (inr refl) s)
      (λ body. still_of p (put_with-touches label word do_word body (anywhere do_word)))))

  pub compound_tells : (p : Where) → IsWhere p → (S : ℕ → Type 0) (f : ℕ) → S f → (c : CompoundTree) → Tells p S (compound_labels c) (compound f c)
  compound_tells p is S f f-in (tree.compound_statement word body end) =
      still_then (sequence_labels body) (still_of p (reach_all-touches f body (everywhere (statements_node body)))) (λ _.
      tells_still (sequence_labels body) (sequence_tells p is S f f-in word body) (λ last.
      still_of p (bind-touches (leave_all-touches f body (everywhere (statements_node body)))
      (λ _. compound_row-touches word last end (anywhere _) (anywhere end)))))

  sequence_tells : (p : Where) → IsWhere p → (S : ℕ → Type 0) (f : ℕ) → S f → (list : ℕ) (s : StatementsTree)
      → Tells p S (sequence_labels s) (sequence f list s)
  sequence_tells p is S f f-in list (tree.statement_sequence first others) =
      tells_then (labels_of_statement first) (more_labels others) (statement_tells p is S f f-in first)
      (λ n. more_tell p is S f f-in (element list n) others)

  more_tell : (p : Where) → IsWhere p → (S : ℕ → Type 0) (f : ℕ) → S f → (last : Element) (r : StatementTrees)
      → Tells p S (more_labels r) (more_statements f last r)
  more_tell p is S f f-in last tree.end_of_statements = still_tells (still_of p (give-touches last))
  more_tell p is S f f-in last (tree.more_statements semicolon s rest) =
      tells_then (labels_of_statement s) (more_labels rest)
      (tells_still (labels_of_statement s) (statement_tells p is S f f-in s) (λ n. still_of p (add_element-touches last semicolon n (anywhere _))))
      (λ next. more_tell p is S f f-in next rest)

  if_tells : (p : Where) → IsWhere p → (S : ℕ → Type 0) (f : ℕ) → S f → (label : Option ℕ) (i : IfTree) → Tells p S (if_labels i) (if_statement f label i)
  if_tells p is S f f-in label (tree.if_statement word condition then_word s alternative) =
      still_then (labels_of_statement s ++ else_labels alternative) (still_of p (condition_row-touches f condition (everywhere (expression_node condition))))
      (λ c.
      tells_then (labels_of_statement s) (else_labels alternative) (statement_tells p is S f f-in s)
      (λ n. else_tells p is S f f-in (branching label word c n) alternative))

  else_tells : (p : Where) → IsWhere p → (S : ℕ → Type 0) (f : ℕ) → S f → (b : Branching) (e : ElseTree) → Tells p S (else_labels e) (else_statement f b e)
  else_tells p is S f f-in b tree.without_else = still_tells (still_of p (if_row-touches b (anywhere _)))
  else_tells p is S f f-in b (tree.an_else else_word s) =
      tells_still (labels_of_statement s) (statement_tells p is S f f-in s) (λ n. still_of p (if_else_row-touches b n (anywhere _)))

  case_tells : (p : Where) → IsWhere p → (S : ℕ → Type 0) (f : ℕ) → S f → (label : Option ℕ) (c : CaseTree)
      → Tells p S (case_labels c) (case_statement f label c)
  case_tells p is S f f-in label (tree.case_statement word selector of_word first others semicolon end) =
      still_then (branch_labels first ++ branches_labels others) (still_of p (selected-touches f of_word selector (everywhere (expression_node selector))))
      (λ x.
      tells_then (branch_labels first) (branches_labels others)
      (branch_tells p is S f f-in x.choosing of_word of_word first) (λ last.
      tells_still (branches_labels others) (branches_tell p is S f f-in x.choosing last others)
      (λ _. still_of p (case_row-touches label word x.row of_word (anywhere word)))))

  branch_tells : (p : Where) → IsWhere p → (S : ℕ → Type 0) (f : ℕ) → S f → (c : Choosing) (last slot : ℕ) (b : BranchTree)
      → Tells p S (branch_labels b) (branch_step f c last slot b)
  branch_tells p is S f f-in c last slot (tree.a_branch constants colon s) =
      tells_still (labels_of_statement s) (statement_tells p is S f f-in s)
      (λ n. still_of p (choices-touches c n last slot constants (anywhere _) (anywhere slot) (everywhere (constants_node constants))))

  branches_tell : (p : Where) → IsWhere p → (S : ℕ → Type 0) (f : ℕ) → S f → (c : Choosing) (last : ℕ) (r : BranchTrees)
      → Tells p S (branches_labels r) (more_branches f c last r)
  branches_tell p is S f f-in c last tree.end_of_branches = still_tells (still_of p (give-touches last))
  branches_tell p is S f f-in c last (tree.more_branches semicolon b rest) =
      tells_then (branch_labels b) (branches_labels rest) (branch_tells p is S f f-in c last semicolon b)
      (λ next. branches_tell p is S f f-in c next rest)

  repeat_tells : (p : Where) → IsWhere p → (S : ℕ → Type 0) (f : ℕ) → S f → (label : Option ℕ) (r : RepeatTree)
      → Tells p S (repeat_labels r) (repeat_statement f label r)
  repeat_tells p is S f f-in label (tree.repeat_statement word body until_word condition) =
      still_then (sequence_labels body) (still_of p (reach_all-touches f body (everywhere (statements_node body)))) (λ _.
      tells_still (sequence_labels body) (sequence_tells p is S f f-in word body) (λ last.
      still_of p (bind-touches (leave_all-touches f body (everywhere (statements_node body)))
      (λ _. bind-touches (link_element-touches last 0 (anywhere _)) (λ _.
      bind-touches (condition_row-touches f condition (everywhere (expression_node condition)))
      (λ c. repeat_row-touches label word until_word c (anywhere until_word)))))))
