-- Where a text breaks rules 15 and 12: at labels in front of its statements, and at names of functions that have blocks.
use Rattle.std.proofs.Common.{if◌then◌else◌, ◌++◌, ◌||◌, ◌∙◌, ◌∷◌, ◌≡◌, [], ℕ, Bool, Contains, List, None, Option, Some, ap, arith, false, inl, inr, map}
use Rattle.std.proofs.Common.{nat_eq, not, refl, suc, sym, true}
use Rattle.pas_lexer.specs.Lexed.{Lexed}
use Rattle.grammar.specs.Nodes.{row}
use Rattle.pas_tree.specs.{HeadingPlaces.heading_name, Operators.direction_node, declared.statements.Label.Label}
use Rattle.pas_tree.specs.BlockTrees.{BlockTree, BodyTree, ProgramTree, RoutineTree, RoutineTrees, routine_body, routine_heading}
use Rattle.pas_tree.specs.BlockTrees as blocks
use Rattle.pas_tree.specs.StatementTrees.{BranchTree, BranchTrees, CaseTree, CompoundTree, ElseTree, IfTree, PlainTree, RepeatTree, StatementTree}
use Rattle.pas_tree.specs.StatementTrees.{StatementTrees, StatementsTree, compound_body}
use Rattle.pas_tree.specs.StatementTrees as tree
use Rattle.pas_tree.specs.TreeNodes.{access_node, assignment_node, call_node, constants_node, expression_node, next_access_node, statements_node}
use Rattle.core_program.specs.declared.rows.Row.{Row}
use Rattle.check_steps.specs.{Breaks.number, Steps.◌>>=◌, Steps.Step, Steps.ask, Steps.look, Words.known_at_start}
use Rattle.check_steps.specs.declared.{breaks.Break.Break, breaks.Broken.Broken, breaks.Broken.TheVariants.Late, regions.Span.Span}
use Rattle.denoter_checker.specs.{Formals.is_function, RoutineParts.routine_name, declared.variants.Choosing.Choosing}
use Rattle.decl_checker.specs.{Programs.program_step, Routines.own_frame}
use Rattle.statement_checker.specs.Labels.{is_unmarked, mark, marked_label, own_label, put_label, row_of}
use Rattle.statement_checker.specs.Statements.{branch_step, branching, case_statement, compound, element, else_statement, if_statement, label_token}
use Rattle.statement_checker.specs.Statements.{labelled_by, more_branches, more_statements, plain, repeat_statement, sequence, statement_step}
use Rattle.statement_checker.specs.declared.sequences.{Branching.Branching, Element.Element}
use Rattle.code_checker.specs.{CheckedPrograms.broken, CheckedPrograms.check_step, CodePlaces.span_of}
use Rattle.code_checker.specs.Blocks.{code_block, code_body, code_routine, code_routines, statement_part}
use Rattle.code_checker.specs.Results.{function_result, has_result, name_in_first}
use Rattle.rule_laws.proofs.{DenoterVariants.choices-touches, Earlier.Early, Earlier.declarations_early, Faces.Shown, JoinedParts.Member, JoinedParts.contains}
use Rattle.rule_laws.proofs.{LabelTold.Anywhere, LabelTold.anywhere, LabelTold.everywhere, Listed.Listed, Listed.listed_left, Listed.listed_right, Plain.Aim}
use Rattle.rule_laws.proofs.{Plain.is_plain, StatementChoices.case_row-touches, StatementParts.for_ends-touches, StatementParts.selected-touches}
use Rattle.rule_laws.proofs.{StatementRecords.put_with-touches, StatementStatements.next_records-touches, Touches.Told, Touches.Touches, Touches.is_of_ends}
use Rattle.rule_laws.proofs.Breaks.{Each, In, found, in_either, of_each}
use Rattle.rule_laws.proofs.StatementLabels.{jump-touches, labelled-touches, leave-touches, leave_all-touches, reach_all-touches, reach_label-touches}
use Rattle.rule_laws.proofs.StatementParts.{assignment-touches, call_statement-touches, condition_row-touches, first_record-touches, for_begins-touches}
use Rattle.rule_laws.proofs.StatementSequences.{add_element-touches, compound_row-touches, empty-touches, if_else_row-touches, if_row-touches}
use Rattle.rule_laws.proofs.StatementSequences.{link_element-touches, repeat_row-touches, while_row-touches}
use Rattle.rule_laws.proofs.Telling.{Only, ask-only, bind-only, change-only, give-only, look-only}
use Rattle.rule_laws.specs.{CaseLaws.late_at, ForwardHeadings.is_block, ForwardHeadings.routines_in, Laws.broken_at, TextLaws.statement_labels}
use Rattle.rule_laws.specs.BlockLabels.{branch_labels, branches_labels, case_labels, compound_labels, else_labels, if_labels, in_front, labels_inside}
use Rattle.rule_laws.specs.BlockLabels.{labels_of_statement, more_labels, repeat_labels, sequence_labels}
use Rattle.rule_laws.specs.OnlyLaws.{IsFunctionWithBlock, TextsBreakFifteen, TextsBreakTwelve}
use Rattle.rule_laws.specs.SomeBlocks.{SomeBlock, SomeInside, SomeOfBody, SomeOfRoutine}

-- one of these rules, the token that is looked at, and what follows if it is broken there
pub record Mark : Type 1 where
  pub rule : ℕ
  pub either : is_of_ends rule ≡ true
  pub n : ℕ
  pub X : Type 0

-- all that the step breaks leads to it
abbrev Leads : Mark → {A : Type 0} → Step A → Type 0
Leads x m = Only (λ b. b ≡ late_at x.rule x.n → x.X) m

-- if this is the rule
abbrev If : Mark → ℕ → Type 0
If x rule = x.rule ≡ rule → x.X

-- ---- steps that break neither rule

-- the marks of labels stay
abbrev unmarking : Shown
unmarking = record { frames = false; marks = true; results = false }

quiet_each : (x : Mark) (bs : List Break) → Each (Told Anywhere unmarking) bs → Each (λ b. b ≡ late_at x.rule x.n → x.X) bs
quiet_each x [] e = tt
quiet_each x (b ∷ bs) e = (
  (λ same.
      let is : is_of_ends (number b.broken) ≡ is_of_ends x.rule = ap (λ (c : Break). is_of_ends (number c.broken)) same in
      absurd (let never : true ≡ false = sym (is ∙ x.either) ∙ e.0.quiet refl in cc)),
  quiet_each x bs e.1,
)

quiet : (x : Mark) {A : Type 0} {m : Step A} → Touches Anywhere unmarking m → Leads x m
quiet x {m = m} touches = record { of = λ k. quiet_each x (m k).broken (touches.told k) }

-- ---- a label

put_label-leads : (x : Mark) (d : Option ℕ) (r : Row) → Leads x (put_label d r)
put_label-leads x None r = give-only tt
put_label-leads x (Some d) r = change-only _

mark-leads : (x : Mark) (f token : ℕ) → (token ≡ x.n → If x 15) → Leads x (mark f token)
unfolding mark
mark-leads x f token lead = bind-only (look-only (λ k. own_label k f token)) (λ d. bind-only (look-only (λ k. row_of k d)) (λ r.
    bind-only (ask-only (Late 15) token (is_unmarked r) (λ e. lead (ap (λ (b : Break). b.token) e) (sym (ap (λ (b : Break). number b.broken) e))))
    (λ _. put_label-leads x d (marked_label r))))

labelled-leads : (x : Mark) (f : ℕ) (label : Option Label) (m : Step ℕ) → (Listed (in_front label) x.n → If x 15) → Leads x m → Leads x (labelled_by f label m)
labelled-leads x f None m lead h = h
labelled-leads x f (Some l) m lead h = bind-only (mark-leads x f l.number (λ e. lead (inl e))) (λ _. bind-only (quiet x (reach_label-touches f l.number)) (λ _.
    bind-only h (λ n. bind-only (quiet x (leave-touches f l.number)) (λ _. quiet x (labelled-touches l.number n (anywhere l.number))))))

-- the labels of a first part, and those of another
first_of : (x : Mark) (xs ys : List ℕ) → (Listed (xs ++ ys) x.n → If x 15) → Listed xs x.n → If x 15
first_of x xs ys lead h = lead (listed_left xs ys x.n h)

next_of : (x : Mark) (xs ys : List ℕ) → (Listed (xs ++ ys) x.n → If x 15) → Listed ys x.n → If x 15
next_of x xs ys lead h = lead (listed_right xs ys x.n h)

-- ---- statements

mutual
  statement-leads : (x : Mark) (f : ℕ) (s : StatementTree) → (Listed (labels_of_statement s) x.n → If x 15) → Leads x (statement_step f s)
  statement-leads x f (tree.a_statement label s) lead = labelled-leads x f label (plain f (label_token label) s)
      (first_of x (in_front label) (labels_inside s) lead) (plain-leads x f (label_token label) s (next_of x (in_front label) (labels_inside s) lead))

  plain-leads : (x : Mark) (f : ℕ) (label : Option ℕ) (s : PlainTree) → (Listed (labels_inside s) x.n → If x 15) → Leads x (plain f label s)
  plain-leads x f label tree.an_empty lead = quiet x empty-touches
  plain-leads x f label (tree.an_assignment a) lead = quiet x (assignment-touches refl f label a (everywhere (assignment_node a)))
  plain-leads x f label (tree.a_procedure_call name actuals) lead =
      quiet x (call_statement-touches f label name actuals (anywhere name) (everywhere (call_node actuals)))
  plain-leads x f label (tree.a_goto word target) lead = quiet x (jump-touches f label word target (anywhere word) (anywhere target))
  plain-leads x f label (tree.a_compound c) lead = compound-leads x f c lead
  plain-leads x f label (tree.an_if i) lead = if-leads x f label i lead
  plain-leads x f label (tree.a_case c) lead = case-leads x f label c lead
  plain-leads x f label (tree.a_repeat r) lead = repeat-leads x f label r lead
  plain-leads x f label (tree.a_while word condition do_word s) lead =
      bind-only (quiet x (condition_row-touches f condition (everywhere (expression_node condition)))) (λ c. bind-only (statement-leads x f s lead) (λ body.
      quiet x (while_row-touches label word c body (anywhere word))))
  plain-leads x f label (tree.a_for word name becomes initial direction last do_word s) lead =
      bind-only (quiet x (for_begins-touches f name initial last (anywhere name) (everywhere (expression_node initial)) (everywhere (expression_node last))))
      (λ b.
      bind-only (statement-leads x f s lead) (λ body. quiet x (for_ends-touches label word direction b body (anywhere word)
      (everywhere (direction_node direction)))))
  plain-leads x f label (tree.a_with word first others do_word s) lead =
      bind-only (quiet x (first_record-touches refl f word first (everywhere (access_node first)))) (λ one.
      bind-only (quiet x (next_records-touches refl one others (anywhere one.last.slot) (everywhere (row (map next_access_node others))))) (λ all.
      bind-only (quiet x (link_element-touches all.last 0 (anywhere all.last.slot))) (λ _. bind-only (statement-leads x all.frame s lead) (λ body.
      quiet x (put_with-touches label word do_word body (anywhere do_word))))))

  pub compound-leads : (x : Mark) (f : ℕ) (c : CompoundTree) → (Listed (compound_labels c) x.n → If x 15) → Leads x (compound f c)
  compound-leads x f (tree.compound_statement word body end) lead = bind-only (quiet x (reach_all-touches f body (everywhere (statements_node body)))) (λ _.
      bind-only (sequence-leads x f word body lead) (λ last. bind-only (quiet x (leave_all-touches f body (everywhere (statements_node body)))) (λ _.
      quiet x (compound_row-touches word last end (anywhere last.slot) (anywhere end)))))

  sequence-leads : (x : Mark) (f list : ℕ) (s : StatementsTree) → (Listed (sequence_labels s) x.n → If x 15) → Leads x (sequence f list s)
  sequence-leads x f list (tree.statement_sequence first others) lead =
      bind-only (statement-leads x f first (first_of x (labels_of_statement first) (more_labels others) lead))
      (λ n. more-leads x f (element list n) others (next_of x (labels_of_statement first) (more_labels others) lead))

  more-leads : (x : Mark) (f : ℕ) (last : Element) (r : StatementTrees) → (Listed (more_labels r) x.n → If x 15) → Leads x (more_statements f last r)
  more-leads x f last tree.end_of_statements lead = give-only last
  more-leads x f last (tree.more_statements semicolon s rest) lead =
      bind-only (bind-only (statement-leads x f s (first_of x (labels_of_statement s) (more_labels rest) lead))
      (λ n. quiet x (add_element-touches last semicolon n (anywhere last.slot))))
      (λ next. more-leads x f next rest (next_of x (labels_of_statement s) (more_labels rest) lead))

  if-leads : (x : Mark) (f : ℕ) (label : Option ℕ) (i : IfTree) → (Listed (if_labels i) x.n → If x 15) → Leads x (if_statement f label i)
  if-leads x f label (tree.if_statement word condition then_word s alternative) lead =
      bind-only (quiet x (condition_row-touches f condition (everywhere (expression_node condition)))) (λ c.
      bind-only (statement-leads x f s (first_of x (labels_of_statement s) (else_labels alternative) lead)) (λ n.
      else-leads x f (branching label word c n) alternative (next_of x (labels_of_statement s) (else_labels alternative) lead)))

  else-leads : (x : Mark) (f : ℕ) (b : Branching) (e : ElseTree) → (Listed (else_labels e) x.n → If x 15) → Leads x (else_statement f b e)
  else-leads x f b tree.without_else lead = quiet x (if_row-touches b (anywhere b.word))
  else-leads x f b (tree.an_else word s) lead = bind-only (statement-leads x f s lead) (λ n. quiet x (if_else_row-touches b n (anywhere b.word)))

  case-leads : (x : Mark) (f : ℕ) (label : Option ℕ) (c : CaseTree) → (Listed (case_labels c) x.n → If x 15) → Leads x (case_statement f label c)
  case-leads x f label (tree.case_statement word selector of_word first others semicolon end) lead =
      bind-only (quiet x (selected-touches f of_word selector (everywhere (expression_node selector)))) (λ s.
      bind-only (branch-leads x f s.choosing of_word of_word first (first_of x (branch_labels first) (branches_labels others) lead)) (λ last.
      bind-only (branches-lead x f s.choosing last others (next_of x (branch_labels first) (branches_labels others) lead)) (λ _.
      quiet x (case_row-touches label word s.row of_word (anywhere word)))))

  branch-leads : (x : Mark) (f : ℕ) (c : Choosing) (last slot : ℕ) (b : BranchTree) → (Listed (branch_labels b) x.n → If x 15)
      → Leads x (branch_step f c last slot b)
  branch-leads x f c last slot (tree.a_branch constants colon s) lead =
      bind-only (statement-leads x f s lead) (λ n. quiet x (choices-touches c n last slot constants (anywhere c.list) (anywhere slot)
      (everywhere (constants_node constants))))

  branches-lead : (x : Mark) (f : ℕ) (c : Choosing) (last : ℕ) (r : BranchTrees) → (Listed (branches_labels r) x.n → If x 15)
      → Leads x (more_branches f c last r)
  branches-lead x f c last tree.end_of_branches lead = give-only last
  branches-lead x f c last (tree.more_branches semicolon b rest) lead =
      bind-only (branch-leads x f c last semicolon b (first_of x (branch_labels b) (branches_labels rest) lead))
      (λ next. branches-lead x f c next rest (next_of x (branch_labels b) (branches_labels rest) lead))

  repeat-leads : (x : Mark) (f : ℕ) (label : Option ℕ) (r : RepeatTree) → (Listed (repeat_labels r) x.n → If x 15) → Leads x (repeat_statement f label r)
  repeat-leads x f label (tree.repeat_statement word body until_word condition) lead =
      bind-only (quiet x (reach_all-touches f body (everywhere (statements_node body)))) (λ _. bind-only (sequence-leads x f word body lead) (λ last.
      bind-only (quiet x (leave_all-touches f body (everywhere (statements_node body)))) (λ _.
      bind-only (quiet x (link_element-touches last 0 (anywhere last.slot))) (λ _.
      bind-only (quiet x (condition_row-touches f condition (everywhere (expression_node condition)))) (λ c.
      quiet x (repeat_row-touches label word until_word c (anywhere until_word)))))))

-- ---- blocks

listed_contains : (n : ℕ) (xs : List ℕ) → Listed xs n → Contains xs n
listed_contains n [] h = absurd h
listed_contains n (y ∷ ys) (inl e) = (0, omega arith, e)
listed_contains n (y ∷ ys) (inr h) = let c = listed_contains n ys h in (suc c.0, omega (arith, c.1), c.2)

abbrev pub HasLabel : ℕ → BlockTree → Type 0
HasLabel n b = Contains (statement_labels b) n

-- a procedure tells nothing
result-leads : (x : Mark) (function : Bool) (name : ℕ) → (function ≡ true → name ≡ x.n → If x 12) → Leads x (function_result function name)
unfolding function_result look ◌>>=◌ ask
result-leads x false name lead = record { of = λ k. tt }
result-leads x true name lead = record { of = λ k. asked (has_result k true name) }
  where
    asked : (fine : Bool) → Each (λ b. b ≡ late_at x.rule x.n → x.X) (if fine then [] else late_at 12 name ∷ [])
    asked true = tt
    asked false = ((λ e. lead refl (ap (λ (b : Break). b.token) e) (sym (ap (λ (b : Break). number b.broken) e))), tt)

part-leads : (x : Mark) (f : ℕ) (span : Span) (c : CompoundTree) → (Listed (compound_labels c) x.n → If x 15) → Leads x (statement_part f span c)
unfolding statement_part
part-leads x f span c lead = bind-only (change-only _) (λ _. bind-only (compound-leads x f c lead) (λ _. give-only tt))

-- one of the functions of a part, that has its name at the token and a block
pub record Own (x : Mark) (r : RoutineTree) : Type 0 where
  at : routine_name r ≡ x.n
  function : is_function (routine_heading r) ≡ true
  block : is_block (routine_body r) ≡ true

mutual
  code-leads : (x : Mark) (f : ℕ) (b : BlockTree) → (SomeBlock (HasLabel x.n) b → If x 15) → (SomeBlock (IsFunctionWithBlock x.n) b → If x 12)
      → Leads x (code_block f b)
  code-leads x f (blocks.a_block labels constants types variables routines body) lead ends =
      let b = blocks.a_block labels constants types variables routines body in
      bind-only (quiet x (reach_all-touches f (compound_body body) (everywhere (statements_node (compound_body body))))) (λ _.
      bind-only (routines-lead x routines (λ s. lead (inr s)) (λ s. ends (inr s)) (λ r member own. ends (inl (record {
        r = r;
        one = contains r (routines_in routines) member;
        at = own.at;
        function = own.function;
        block = own.block;
      })))) (λ _. part-leads x f (span_of b) body (λ h. lead (inl (listed_contains x.n (compound_labels body) h)))))

  pub routines-lead : (x : Mark) (rs : RoutineTrees) → (SomeInside (HasLabel x.n) rs → If x 15) → (SomeInside (IsFunctionWithBlock x.n) rs → If x 12)
      → ((r : RoutineTree) → Member r (routines_in rs) → Own x r → If x 12) → Leads x (code_routines rs)
  routines-lead x blocks.end_of_routines lead ends own = give-only tt
  routines-lead x (blocks.more_routines r rest) lead ends own =
      bind-only (routine-leads x r (λ s. lead (inl s)) (λ s. ends (inl s)) (own r (inl refl)))
      (λ _. routines-lead x rest (λ s. lead (inr s)) (λ s. ends (inr s)) (λ q member. own q (inr member)))

  routine-leads : (x : Mark) (r : RoutineTree) → (SomeOfRoutine (HasLabel x.n) r → If x 15) → (SomeOfRoutine (IsFunctionWithBlock x.n) r → If x 12)
      → (Own x r → If x 12) → Leads x (code_routine r)
  routine-leads x (blocks.a_routine heading semicolon body last_semicolon) lead ends own =
      body-leads x (is_function heading) (heading_name heading) body lead ends
      (λ function at block. own (record { at = at; function = function; block = block }))

  body-leads : (x : Mark) (function : Bool) (name : ℕ) (body : BodyTree) → (SomeOfBody (HasLabel x.n) body → If x 15)
      → (SomeOfBody (IsFunctionWithBlock x.n) body → If x 12) → (function ≡ true → name ≡ x.n → is_block body ≡ true → If x 12)
      → Leads x (code_body function name body)
  body-leads x function name (blocks.a_directive directive) lead ends own = give-only tt
  body-leads x function name (blocks.a_block_body b) lead ends own = bind-only (look-only (λ k. own_frame k (name_in_first k name))) (λ f.
      bind-only (code-leads x f b lead ends) (λ _. result-leads x function name (λ function at. own function at refl)))

-- ---- a text

never_early : (rule token other n : ℕ) → broken_at rule token ≡ late_at other n → ⊥
never_early rule token other n e = let same = ap (λ (b : Break). b.broken) e in cc

never_plain : (what : Broken) (token rule n : ℕ) → is_of_ends rule ≡ true → is_plain what ≡ true → record { broken = what; token = token } ≡ late_at rule n → ⊥
never_plain what token rule n ends plain e =
    let same : number what ≡ rule = ap (λ (b : Break). number b.broken) e in
    ends_plain (nat_eq (number what) 2) (nat_eq (number what) 8) (nat_eq (number what) 15) (nat_eq (number what) 12) plain (ap is_of_ends same ∙ ends)
  where
    ends_plain : (a b c d : Bool) → not (a || b || d || c) ≡ true → (c || d) ≡ true → ⊥
    ends_plain true b c d plain ends = cc
    ends_plain false true c d plain ends = cc
    ends_plain false false c true plain ends = cc
    ends_plain false false true false plain ends = cc
    ends_plain false false false false plain ends = cc

-- the declarations of a text break neither rule
pub declarations_quiet : (l : Lexed) (t : ProgramTree) (rule n : ℕ) → is_of_ends rule ≡ true
    → In (late_at rule n) (program_step t (known_at_start l)).broken → ⊥
declarations_quiet l t rule n either told =
    let k = known_at_start l in
    let b = late_at rule n in
    let aim : Aim = record { words = k.words; P = λ c. c ≡ b → ⊥ } in
    let early : Early aim = record {
      plain = record { of = λ what at is e. never_plain what at rule n either is e };
      of = λ other at e. never_early other at rule n e;
    } in
    of_each (λ c. c ≡ b → ⊥) b (program_step t k).broken (declarations_early early t k refl) told refl

-- what follows from a rule that a text breaks at a token
text_leads : (l : Lexed) (t : ProgramTree) (x : Mark) → Contains (broken l t) (late_at x.rule x.n) → (SomeBlock (HasLabel x.n) t.block → If x 15)
    → (SomeBlock (IsFunctionWithBlock x.n) t.block → If x 12) → x.X
unfolding check_step ◌>>=◌
text_leads l t x contained lead ends =
    let k = known_at_start l in
    let b = late_at x.rule x.n in
    let d = program_step t k in
    let e = code_block d.value t.block d.known in
    elim (in_either b d.broken e.broken (found b (d.broken ++ e.broken) contained)) [
      | inl declared ↦ absurd (declarations_quiet l t x.rule x.n x.either declared)
      | inr told ↦ of_each (λ c. c ≡ b → x.X) b e.broken ((code-leads x d.value t.block lead ends).of d.known) told refl
    ]

pub text_fifteen_law : TextsBreakFifteen
text_fifteen_law l t token contained =
    let x : Mark = record { rule = 15; either = refl; n = token; X = SomeBlock (HasLabel token) t.block } in
    text_leads l t x contained (λ s e. s) (λ s e. absurd (let never : 15 ≡ 12 = e in omega (arith, never)))

pub text_twelve_law : TextsBreakTwelve
text_twelve_law l t token contained =
    let x : Mark = record { rule = 12; either = refl; n = token; X = SomeBlock (IsFunctionWithBlock token) t.block } in
    text_leads l t x contained (λ s e. absurd (let never : 12 ≡ 15 = e in omega (arith, never))) (λ s e. s)
