-- What holds of each case statement holds of those inside of statements and blocks.
use Rattle.std.proofs.Common.{if◌then◌else◌, ◌++◌, ◌<◌, ◌∙◌, ◌∷◌, ◌≡◌, ◌⊎◌, [], ℕ, Bool, List, None, Option, Some, ap, arith, false, inl, inr, is_some, length}
use Rattle.std.proofs.Common.{map, refl, subst, suc, sym, true, unwrap_or}
use Rattle.grammar.specs.{Nodes.Node, Nodes.Pair, Nodes.leaf, Nodes.row, declared.terminals.Terminal.Terminal}
use Rattle.pas_tree.specs.{Denoters.last_semicolon_node, ExpressionTrees.AccessTree, ExpressionTrees.ExpressionTree, HeadingPlaces.heading_name}
use Rattle.pas_tree.specs.{HeadingTrees.HeadingTree, Operators.direction_node, Statements.label_node, declared.statements.Label.Label}
use Rattle.pas_tree.specs.BlockTrees.{BlockTree, BodyTree, RoutineTree, RoutineTrees, routine_body}
use Rattle.pas_tree.specs.BlockTrees as blocks
use Rattle.pas_tree.specs.HeadingTrees as headings
use Rattle.pas_tree.specs.StatementTrees.{BranchTree, BranchTrees, CaseTree, CompoundTree, ElseTree, IfTree, NextAccessTree, PlainTree, RepeatTree}
use Rattle.pas_tree.specs.StatementTrees.{StatementTree, StatementTrees, StatementsTree, compound_body}
use Rattle.pas_tree.specs.StatementTrees as tree
use Rattle.pas_tree.specs.TreeNodes.{access_node, block_node, body_node, branch_node, branches_node, case_node, compound_node, constants_node, else_node}
use Rattle.pas_tree.specs.TreeNodes.{expression_node, heading_node, if_node, more_statements_node, next_access_node, plain_node, repeat_node, routine_node}
use Rattle.pas_tree.specs.TreeNodes.{routines_node, statement_node, statements_node}
use Rattle.core_program.specs.WholeTables.{type_accessed}
use Rattle.core_program.specs.declared.rows.{ItemRow.ItemRow, NameRow.NameRow, PartRow.PartRow, Row.Row, TypeRow.TypeRow}
use Rattle.check_steps.specs.{Regions.RegionRows, Regions.region_at, declared.regions.Frame.Frame, declared.regions.Span.Span}
use Rattle.check_steps.specs.Known.{Known, and_frame, frame_at, row_at, type_at, with_row}
use Rattle.check_steps.specs.Steps.{◌>>=◌, Step, ask, change, each, extend, give, look}
use Rattle.denoter_checker.specs.{Formals.is_function, RoutineParts.routine_name, declared.variants.Choosing.Choosing}
use Rattle.decl_checker.specs.{Routines.first_name, Routines.own_frame, Scopes.routine_region}
use Rattle.decl_checker.specs.Statements.{fields_in, inside_of, one_more_with, open_fields}
use Rattle.expression_checker.specs.{Expressions.access, Selectors.is_record, Selectors.type_row, declared.typed.Typed.Typed}
use Rattle.statement_checker.specs.{Records.inside_record, Records.put_with, Sequences.add_element, Sequences.link_element}
use Rattle.statement_checker.specs.Labels.{each_label, leave, leave_all, on_label, on_others, on_statement, reach_all, reach_label}
use Rattle.statement_checker.specs.Parts.{another_record, condition_row, first_record}
use Rattle.statement_checker.specs.Statements.{added_element, branch_step, branching, case_statement, compound, element, else_statement, if_statement}
use Rattle.statement_checker.specs.Statements.{label_token, labelled_by, more_branches, more_statements, plain, repeat_statement, sequence, statement_step}
use Rattle.statement_checker.specs.declared.{parts.Opened.Opened, parts.Selected.Selected, sequences.Branching.Branching, sequences.Element.Element}
use Rattle.code_checker.specs.{CodePlaces.span_of, Results.function_result, Results.has_result, Results.name_in_first}
use Rattle.code_checker.specs.Blocks.{code_block, code_body, code_routine, code_routines, statement_part}
use Rattle.rule_laws.proofs.{AccessValues.Accessed, AccessValues.access_reaches, DenoterVariants.choices-touches, Every.Every, Every.Of, Every.every}
use Rattle.rule_laws.proofs.{ExpressionExpressions.access-touches, ExpressionRows.asked_fine, ExpressionRows.left_none, ExpressionRows.right_none}
use Rattle.rule_laws.proofs.{ExpressionTypes.World, ExpressionValues.slot_put, Faces.face, Faces.loose, Faces.said, InsideOf.inside_of-touches, Keeping.Keeps}
use Rattle.rule_laws.proofs.{LabelTold.Anywhere, LabelTold.anywhere, LabelTold.everywhere, NamesFound.Ahead, NamesFound.ahead_before, NamesFound.outward_then}
use Rattle.rule_laws.proofs.{Once.every_has, Outward.Outward, Outward.frame_last, Outward.one_longer, Outward.outward_new, Seats.every_has as every_by}
use Rattle.rule_laws.proofs.{StatementChoices.case_row-touches, StatementRecords.put_with-touches, StatementSequences.while_row-touches, Stood.Stood}
use Rattle.rule_laws.proofs.{Stood.stood_later, TextLabels.Coded, TextLabels.coded, TextLabels.own_then, TextTables.Tidy, WithFrames.around_then}
use Rattle.rule_laws.proofs.Kept.{Kept, ask_kept, bind_kept, kept, look_kept}
use Rattle.rule_laws.proofs.Settled.{Checked, Inside, Led, Off, Settled, Tells, every_off, led, led_then, left, right, settled_before, settled_sub, tells_both}
use Rattle.rule_laws.proofs.Settled.{tells_by, tells_first, tells_given, tells_led, tells_none, tells_sub, tells_then}
use Rattle.rule_laws.proofs.StatementLabels.{labelled-touches, leave-touches, mark-touches, reach_label-touches}
use Rattle.rule_laws.proofs.StatementParts.{condition_row-touches, for_begins-touches, for_ends-touches, selected-touches}
use Rattle.rule_laws.proofs.StatementSequences.{add_element-touches, compound_row-touches, if_else_row-touches, link_element-touches, repeat_row-touches}
use Rattle.rule_laws.proofs.StatementStatements.{added_slot, branch_step-touches, compound-touches, else_statement-touches, more_branches-touches}
use Rattle.rule_laws.proofs.StatementStatements.{more_statements-touches, selected_list, statement_step-touches}
use Rattle.rule_laws.proofs.Touches.{Same, Touches, bind-touches, enter_block-touches, give-touches, look-touches, result-touches, same_then}
use Rattle.rule_laws.specs.{CaseLaws.late_at, TextParts.OfEach, TextParts.OfRoutine, TextParts.OfRoutines, Tokens.Has, Tokens.IsDistinct}
use Rattle.rule_laws.specs.TextCases.{BodyIsRight, CaseIsRight, CasesInside, CasesOf, InBranch, InBranches, InCase, InCompound, InElse, InIf, InOthers}
use Rattle.rule_laws.specs.TextCases.{InRepeat, InSequence, IsRecordAt, OfCases, with_slots}

-- ---- labels leave all tokens

label_touches : {Q : ℕ → Type 0} (f : ℕ → Step (Unit {0})) (l : Option Label) → ((t : ℕ) → Touches Q loose (f t)) → Touches Q loose (on_label f l)
label_touches f None h = give-touches tt
label_touches f (Some l) h = h l.number

front_touches : {Q : ℕ → Type 0} (f : ℕ → Step (Unit {0})) (s : StatementTree) → ((t : ℕ) → Touches Q loose (f t)) → Touches Q loose (on_statement f s)
front_touches f (tree.a_statement label p) h = label_touches f label h

others_touch : {Q : ℕ → Type 0} (f : ℕ → Step (Unit {0})) (r : StatementTrees) → ((t : ℕ) → Touches Q loose (f t)) → Touches Q loose (on_others f r)
others_touch f tree.end_of_statements h = give-touches tt
others_touch f (tree.more_statements semicolon s rest) h = bind-touches (front_touches f s h) (λ _. others_touch f rest h)

each_touches : {Q : ℕ → Type 0} (f : ℕ → Step (Unit {0})) (s : StatementsTree) → ((t : ℕ) → Touches Q loose (f t)) → Touches Q loose (each_label f s)
each_touches f (tree.statement_sequence first others) h = bind-touches (front_touches f first h) (λ _. others_touch f others h)

leaves_touch : {Q : ℕ → Type 0} (frame : ℕ) (s : StatementsTree) → Touches Q loose (leave_all frame s)
unfolding leave_all
leaves_touch frame s = each_touches (leave frame) s (λ t. leave-touches frame t)

pub reaches_touch : {Q : ℕ → Type 0} (frame : ℕ) (s : StatementsTree) → Touches Q loose (reach_all frame s)
unfolding reach_all
reaches_touch frame s = each_touches (reach_label frame) s (λ t. reach_label-touches frame t)

-- ---- the tokens of a sequence's statements, and its semicolons

abbrev InStatements : StatementTrees → ℕ → Type 0
InStatements tree.end_of_statements n = ⊥
InStatements (tree.more_statements semicolon s rest) n = Has (statement_node s) n ⊎ InStatements rest n

abbrev Stands : StatementsTree → ℕ → Type 0
Stands (tree.statement_sequence first others) n = Has (statement_node first) n ⊎ InStatements others n

others_stand : (r : StatementTrees) (n : ℕ) → InStatements r n → Has (more_statements_node r) n
others_stand tree.end_of_statements n h = absurd h
others_stand (tree.more_statements semicolon s rest) n (inl h) = inl (inr h)
others_stand (tree.more_statements semicolon s rest) n (inr h) = inr (others_stand rest n h)

stands : (s : StatementsTree) (n : ℕ) → Stands s n → Has (statements_node s) n
stands (tree.statement_sequence first others) n (inl h) = inl h
stands (tree.statement_sequence first others) n (inr h) = inr (others_stand others n h)

-- all semicolons before the statements of a list
abbrev Semicolons : (ℕ → Type 0) → StatementTrees → Type 0
Semicolons R tree.end_of_statements = Unit {0}
Semicolons R (tree.more_statements semicolon s rest) = Of R semicolon × Semicolons R rest

semicolons_off : (a : Node) (r : StatementTrees) → ((n : ℕ) → Has (more_statements_node r) n → Has a n → ⊥) → Semicolons (Off (Has a)) r
semicolons_off a tree.end_of_statements apart = tt
semicolons_off a (tree.more_statements semicolon s rest) apart =
    (record { is = apart semicolon (inl (inl refl)) }, semicolons_off a rest (λ n h. apart n (inr h)))

-- both kinds of tokens off, where each is
semicolons_both : (Q R : ℕ → Type 0) (r : StatementTrees) → Semicolons (Off Q) r → Semicolons (Off R) r → Semicolons (Off (λ n. Q n ⊎ R n)) r
semicolons_both Q R tree.end_of_statements a b = tt
semicolons_both Q R (tree.more_statements semicolon s rest) a b = (
  record {
    is = λ h. elim h [
      | inl q ↦ a.0.is q
      | inr r ↦ b.0.is r
    ];
  },
  semicolons_both Q R rest a.1 b.1,
)

-- they stand in none of the statements
semicolons_apart : (r : StatementTrees) → IsDistinct (more_statements_node r) → Semicolons (Off (InStatements r)) r
semicolons_apart tree.end_of_statements d = tt
semicolons_apart (tree.more_statements semicolon s rest) d = (
  record {
    is = λ h. elim h [
      | inl q ↦ d.0.2 semicolon refl q
      | inr q ↦ d.2 semicolon (inl refl) (others_stand rest semicolon q)
    ];
  },
  semicolons_both (Has (statement_node s)) (InStatements rest) rest (semicolons_off (statement_node s) rest (λ n h g. d.2 n (inr g) h))
      (semicolons_apart rest d.1),
)

others_slot : {R : ℕ → Type 0} (frame : ℕ) (last : Element) (r : StatementTrees) → Of R last.slot → Semicolons R r → (k : Known)
    → Of R (more_statements frame last r k).value.slot
unfolding ◌>>=◌ give
others_slot frame last tree.end_of_statements here semicolons k = here
others_slot frame last (tree.more_statements semicolon s rest) here semicolons k =
    let d = added_element last semicolon (statement_step frame s) k in
    others_slot frame d.value rest (added_slot last semicolon (statement_step frame s) semicolons.0 k) semicolons.1 d.known

-- the last slot of a sequence stands in none of its statements
last_slot : (frame list : ℕ) (s : StatementsTree) → IsDistinct (statements_node s) → (Has (statements_node s) list → ⊥) → (k : Known)
    → Of (Off (Stands s)) (sequence frame list s k).value.slot
unfolding ◌>>=◌
last_slot frame list (tree.statement_sequence first others) d off k =
    let n = statement_step frame first k in
    others_slot {R = Off (Stands (tree.statement_sequence first others))} frame (element list n.value) others
    (record { is = λ h. off (stands (tree.statement_sequence first others) list h) })
    (semicolons_both (Has (statement_node first)) (InStatements others) others (semicolons_off (statement_node first) others (λ m h g. d.2 m g h))
    (semicolons_apart others d.1)) n.known

-- ---- statements

-- what holds of a case statement, wherever it stands in a text
abbrev pub Teller : World → ℕ → (List ℕ → CaseTree → Type 0) → Type 0
Teller w block P = (slots : List ℕ) (frame : ℕ) (label : Option ℕ) (c : CaseTree) → Inside w.y (case_node c)
    → Tells w.y (Led w.y.f block slots frame) (Has (case_node c)) (case_statement frame label c) (P slots c)

labelled_tells : {y : Checked} {block : ℕ} {slots : List ℕ} {X : Type 0} (frame : ℕ) (label : Option Label) (p : PlainTree) (m : Step ℕ)
    → Inside y (Pair (label_node label) (plain_node p))
    → Tells y (Led y.f block slots frame) (Has (plain_node p)) m X → Tells y (Led y.f block slots frame) (Has (plain_node p)) (labelled_by frame label m) X
labelled_tells frame None p m i h = h
labelled_tells frame (Some l) p m i h = tells_then _ (led (mark-touches {Q = Anywhere} {strict = loose} refl frame l.number (anywhere l.number)))
    (λ _. tells_then _ (led (reach_label-touches {Q = Anywhere} {strict = loose} frame l.number))
    (λ _. tells_first (λ n. bind-touches (leave-touches frame l.number)
    (λ _. labelled-touches l.number n (record { is = λ g. i.distinct.2 l.number (inl refl) g }))) h))

condition_led : {f : Known} {block : ℕ} {slots : List ℕ} (frame : ℕ) (e : ExpressionTree) → Keeps (Led f block slots frame) (condition_row frame e)
condition_led frame e = led (condition_row-touches {strict = loose} frame e (everywhere (expression_node e)))

statement_led : {f : Known} {block : ℕ} {slots : List ℕ} (frame : ℕ) (s : StatementTree) → Keeps (Led f block slots frame) (statement_step frame s)
statement_led frame s = led (statement_step-touches frame s (everywhere (statement_node s)))

-- ---- with statements

-- the tokens of a with statement's records
abbrev RecordsNode : ℕ → AccessTree → List NextAccessTree → Node
RecordsNode word a ns = Pair (leaf Terminal.WWith word) (Pair (access_node a) (row (map next_access_node ns)))

-- they are tokens of the statement, and apart from what comes after them
abbrev WithNode : ℕ → AccessTree → List NextAccessTree → Node → Node
WithNode word a ns z = Pair (leaf Terminal.WWith word) (Pair (access_node a) (Pair (row (map next_access_node ns)) z))

records_has : (word : ℕ) (a : AccessTree) (ns : List NextAccessTree) (z : Node) (n : ℕ) → Has (RecordsNode word a ns) n → Has (WithNode word a ns z) n
records_has word a ns z n (inl e) = inl e
records_has word a ns z n (inr (inl h)) = inr (inl h)
records_has word a ns z n (inr (inr h)) = inr (inr (inl h))

records_apart : (word : ℕ) (a : AccessTree) (ns : List NextAccessTree) (z : Node) → IsDistinct (WithNode word a ns z) → (n : ℕ) → Has z n
    → Has (RecordsNode word a ns) n → ⊥
records_apart word a ns z d n h (inl e) = d.2 n e (inr (inr h))
records_apart word a ns z d n h (inr (inl g)) = d.1.2 n g (inr h)
records_apart word a ns z d n h (inr (inr g)) = d.1.1.2 n g h

records_inside : (y : Checked) (word : ℕ) (a : AccessTree) (ns : List NextAccessTree) (z : Node) → Inside y (WithNode word a ns z)
    → Inside y (RecordsNode word a ns)
records_inside y word a ns z i = record {
  distinct = (
    tt,
    (i.distinct.1.0, i.distinct.1.1.0, λ n h g. i.distinct.1.2 n h (inl g)),
    λ n e g. elim g [
      | inl h ↦ i.distinct.2 n e (inl h)
      | inr h ↦ i.distinct.2 n e (inr (inl h))
    ],
  );
  low = λ n h. i.low n (records_has word a ns z n h);
}

-- the frame that is opened inside of one, for the record listed at a token
opened_led : (f : Known) (block : ℕ) (slots : List ℕ) (slot frame region : ℕ) (k : Known) → IsRecordAt f slot region → Led f block slots frame k
    → let d = open_fields frame region k in Led f block (slot ∷ slots) d.value d.known
unfolding open_fields look extend ◌>>=◌
opened_led f block slots slot frame region k opens l =
    let x : Frame = record {
      region = region;
      outer = Some frame;
      level = (frame_at k frame).level;
      withs = one_more_with (frame_at k frame).withs;
    } in
    let longer = one_longer k.frames x in
    record {
      outward = outward_new k.frames x frame refl l.outward;
      around = record {
        there = omega (arith, longer);
        region = region;
        opens = opens;
        is = ap (λ (g : Frame). g.region) (frame_last k.frames x);
        outer = frame;
        leads = ap (λ (g : Frame). g.outer) (frame_last k.frames x);
        around = around_then f k (and_frame k x) (record { more = x ∷ []; is = refl }) block slots frame l.around;
      };
      stood = record { of = λ n. l.stood.of n };
    }

fields_led : (f : Known) (block : ℕ) (slots : List ℕ) (slot frame : ℕ) (k : Known) (x : Option TypeRow) → is_some x ≡ true → is_record x ≡ true
    → ((region : ℕ) → fields_in x ≡ Some region → IsRecordAt f slot region) → Led f block slots frame k
    → let d = inside_of frame (fields_in x) k in Led f block (slot ∷ slots) d.value d.known
fields_led f block slots slot frame k None some fits opens l = absurd (let never : false ≡ true = some in cc)
fields_led f block slots slot frame k (Some (TypeRow.Record packed region cells variants)) some fits opens l =
    opened_led f block slots slot frame region k (opens region refl) l
fields_led f block slots slot frame k (Some x) some fits opens l = absurd (let never : false ≡ true = fits in cc)

-- the record of an access that is listed at a token
record_led : (f : Known) (block : ℕ) (slots : List ℕ) (slot next frame first : ℕ) (v : Typed) (k : Known) → Ahead f k → Accessed f v
    → row_at f slot ≡ Row.Item (ItemRow.Element v.row next) → (inside_record frame first v k).broken ≡ [] → Led f block slots frame k
    → let d = inside_record frame first v k in Led f block (slot ∷ slots) d.value d.known
unfolding inside_record look ◌>>=◌ ask
record_led f block slots slot next frame first v k ahead a listed none l =
    let x = type_row k v.of in
    let same : x ≡ type_at f (type_accessed a.row) = ap (type_row k) a.of ∙ ahead.types (type_accessed a.row) a.there in
    let fine = asked_fine (is_record x) (late_at 23 first) (left_none (if is_record x then [] else late_at 23 first ∷ []) _ none) in
    fields_led f block slots slot frame k x (ap is_some same ∙ a.there) fine
    (λ region e. record {
      access = v.row;
      next = next;
      listed = listed;
      row = a.row;
      stands = a.is;
      fields = ap fields_in (sym same) ∙ e;
    }) l

-- ---- lists of records

record_kept : {Q : ℕ → Type 0} (frame first : ℕ) (v : Typed) → Kept Q (inside_record frame first v)
unfolding inside_record
record_kept frame first v = bind_kept (look_kept _) (λ r. bind_kept (ask_kept _ first _) (λ _. kept (inside_of-touches refl frame (fields_in r))))

another_kept : {Q : ℕ → Type 0} (o : Opened) (n : NextAccessTree) → Of Q o.last.slot → Every Q (next_access_node n) → Kept Q (another_record o n)
unfolding another_record
another_kept o n slot here = bind_kept (kept (access-touches o.frame n.access here.1)) (λ v. bind_kept (record_kept o.frame n.access.name v)
    (λ inner. kept (bind-touches (add_element-touches o.last n.comma v.row slot) (λ last. give-touches _))))

-- the rest of a list, up to the last record's item
tail_same : {Q : ℕ → Type 0} (o : Opened) (ns : List NextAccessTree) (k : Known) → Of Q o.last.slot → Every Q (row (map next_access_node ns))
    → let e = each another_record o ns k in Same Q loose k (link_element e.value.last 0 e.known).known
unfolding ◌>>=◌ give another_record add_element
tail_same o [] k slot here = (link_element-touches {strict = loose} o.last 0 slot).same k
tail_same o (n ∷ ns) k slot here =
    let d = another_record o n k in
    let e = each another_record d.value ns d.known in
    same_then k d.known (link_element e.value.last 0 e.known).known ((another_kept o n slot here.0).same k) (tail_same d.value ns d.known here.0.0 here.1)

record IsElement (v : ℕ) (r : Row) : Type 0 where
  next : ℕ
  is : r ≡ Row.Item (ItemRow.Element v next)

abbrev element_in : Row → ℕ
element_in (Row.Item (ItemRow.Element v next)) = v
element_in r = 0

element_seen : (v : ℕ) (r : Row) → face loose r ≡ Row.Item (ItemRow.Element v 0) → IsElement v r
element_seen v (Row.Item (ItemRow.Element u next)) e = record { next = next; is = ap (λ x. Row.Item (ItemRow.Element (element_in x) next)) e }
element_seen v (Row.Item (ItemRow.Member u end)) e = absurd cc
element_seen v (Row.Item (ItemRow.Members first last end)) e = absurd cc
element_seen v (Row.Item (ItemRow.Choice u chosen end)) e = absurd cc
element_seen v (Row.Item (ItemRow.Value u of' end)) e = absurd cc
element_seen v (Row.Item (ItemRow.Place access end)) e = absurd cc
element_seen v (Row.Item (ItemRow.ArrayPlace first access of' end)) e = absurd cc
element_seen v (Row.Item (ItemRow.ArrayValue first u of' end)) e = absurd cc
element_seen v (Row.Item (ItemRow.Routine routine levels end)) e = absurd cc
element_seen v (Row.Item (ItemRow.RoutineFormal formal levels end)) e = absurd cc
element_seen v (Row.Item (ItemRow.Written u of' end)) e = absurd cc
element_seen v (Row.Item (ItemRow.WrittenWide u of' width end)) e = absurd cc
element_seen v (Row.Item i) e = absurd cc
element_seen v (Row.Name (NameRow.Label marked value level ways)) e = absurd cc
element_seen v (Row.Name (NameRow.Routine assigned number region)) e = absurd cc
element_seen v (Row.Name n) e = absurd cc
element_seen v r e = absurd cc

-- a record whose item is put by the step after it
record Pending (f : Known) (block slot : ℕ) (slots : List ℕ) (o : Opened) (k : Known) : Type 0 where
  at : o.last.slot ≡ slot
  led : (next : ℕ) → row_at f slot ≡ Row.Item (ItemRow.Element o.last.item next) → Led f block (slot ∷ slots) o.frame k

-- what is put at the slot before
element_put : (w : World) (o : Opened) (slot next : ℕ) (k : Known) → o.last.slot ≡ slot → suc slot < length w.y.k.words
    → Settled w.y (λ n. slot ≡ n) (link_element o.last next k).known → IsElement o.last.item (row_at w.y.f slot)
unfolding link_element change
element_put w o slot next k at low s =
    let x = Row.Item (ItemRow.Element o.last.item next) in
    element_seen o.last.item (row_at w.y.f slot) (slot_put w (λ n. slot ≡ n) k slot x refl low
    (subst (λ n. Settled w.y (λ m. slot ≡ m) (with_row k n x)) at s))

each_led : (w : World) (block slot : ℕ) (slots : List ℕ) (o : Opened) (ns : List NextAccessTree) → Inside w.y (row (map next_access_node ns))
    → (Has (row (map next_access_node ns)) slot → ⊥) → suc slot < length w.y.k.words → (k : Known) → Pending w.y.f block slot slots o k
    → let e = each another_record o ns k in
    let g = link_element e.value.last 0 e.known in
    e.broken ≡ [] → Settled w.y (λ n. (slot ≡ n) ⊎ Has (row (map next_access_node ns)) n) g.known
    → Led w.y.f block (with_slots ns (slot ∷ slots)) e.value.frame g.known
unfolding ◌>>=◌ give another_record add_element
each_led w block slot slots o [] i off low k p none s =
    let g = link_element o.last 0 k in
    let put = element_put w o slot 0 k p.at low (settled_sub w.y (λ n. slot ≡ n) (λ n. (slot ≡ n) ⊎ ⊥) g.known (λ n h. inl h) s) in
    led_then w.y.f block (slot ∷ slots) o.frame k g.known ((link_element-touches {Q = Anywhere} {strict = loose} o.last 0 (anywhere o.last.slot)).same k)
    (p.led put.next put.is)
each_led w block slot slots o (n ∷ ns) i off low k p none s =
    let f = w.y.f in
    let Q : ℕ → Type 0 = λ m. (slot ≡ m) ⊎ Has (row (map next_access_node (n ∷ ns))) m in
    let A = access_node n.access in
    let R = row (map next_access_node ns) in
    let d = another_record o n k in
    let e = each another_record d.value ns d.known in
    let g = link_element e.value.last 0 e.known in
    let v = access o.frame n.access k in
    let b = inside_record o.frame n.access.name v.value v.known in
    let none_one = left_none d.broken e.broken none in
    let off_comma : slot ≡ n.comma → ⊥ = λ eq. off (inl (inl (sym eq))) in
    let here = settled_before w.y (λ m. slot ≡ m) d.known g.known
    (tail_same {Q = Off (λ m. slot ≡ m)} d.value ns d.known (record { is = off_comma })
    (every_by (Off (λ m. slot ≡ m)) R (λ m h eq. off (inr (subst (Has R) (sym eq) h)))))
    (settled_sub w.y (λ m. slot ≡ m) Q g.known (λ m h. inl h) s) in
    let put = element_put w o slot n.comma b.known p.at low here in
    let before = p.led put.next put.is in
    let tail = tail_same {Q = Off (Has A)} d.value ns d.known (record { is = λ h. i.distinct.0.2 n.comma refl h })
    (every_by (Off (Has A)) R (λ m h g. i.distinct.2 m (inr g) h)) in
    let middle = (bind_kept (record_kept {Q = Off (Has A)} o.frame n.access.name v.value) (λ inner. kept (add_element-touches o.last n.comma v.value.row
    (record { is = λ h. off (inl (inr (subst (Has A) p.at h))) })))).same v.known in
    let settled = settled_before w.y (Has A) v.known d.known middle (settled_before w.y (Has A) d.known g.known tail
    (settled_sub w.y (Has A) Q g.known (λ m h. inr (inl (inr h))) s)) in
    let reached = (access_reaches w o.frame n.access (right (left i))).of k before.stood (left_none v.broken _ none_one) settled in
    let at_v = led_then f block (slot ∷ slots) o.frame k v.known
    ((access-touches {strict = loose} o.frame n.access (everywhere A)).same k) before in
    let rest : Same Anywhere loose b.known d.known = (add_element-touches {strict = loose} o.last n.comma v.value.row (anywhere o.last.slot)).same b.known in
    each_led w block n.comma (slot ∷ slots) d.value ns (right i) (λ h. i.distinct.2 n.comma (inl refl) h) (i.low n.comma (inl (inl refl))) d.known
    (record {
      at = refl;
      led = λ next listed. led_then f block (n.comma ∷ slot ∷ slots) b.value b.known d.known rest
          (record_led f block (slot ∷ slots) n.comma next o.frame n.access.name v.value v.known settled.ahead reached listed
          (left_none b.broken _ (right_none v.broken _ none_one)) at_v);
    }) (right_none d.broken e.broken none) (settled_sub w.y (λ m. (n.comma ≡ m) ⊎ Has R m) Q g.known (λ m h. elim h [
      | inl eq ↦ inr (inl (inl eq))
      | inr r ↦ inr (inr r)
    ]) s)

-- all records of a with statement
records_led : (w : World) (block : ℕ) (slots : List ℕ) (frame word : ℕ) (a : AccessTree) (ns : List NextAccessTree) → Inside w.y (RecordsNode word a ns)
    → (j : Known) → Led w.y.f block slots frame j → let d = first_record frame word a j in
    let e = each another_record d.value ns d.known in
    let g = link_element e.value.last 0 e.known in
    d.broken ≡ [] → e.broken ≡ [] → Settled w.y (Has (RecordsNode word a ns)) g.known
    → Led w.y.f block (with_slots ns (word ∷ slots)) e.value.frame g.known
unfolding first_record ◌>>=◌ give
records_led w block slots frame word a ns i j l none more s =
    let f = w.y.f in
    let A = access_node a in
    let R = row (map next_access_node ns) in
    let d = first_record frame word a j in
    let e = each another_record d.value ns d.known in
    let g = link_element e.value.last 0 e.known in
    let v = access frame a j in
    let b = inside_record frame a.name v.value v.known in
    let tail = tail_same {Q = Off (Has A)} d.value ns d.known (record { is = λ h. i.distinct.2 word refl (inl h) })
    (every_by (Off (Has A)) R (λ m h g. i.distinct.1.2 m g h)) in
    let settled = settled_before w.y (Has A) v.known d.known ((record_kept {Q = Off (Has A)} frame a.name v.value).same v.known)
    (settled_before w.y (Has A) d.known g.known tail (settled_sub w.y (Has A) (Has (RecordsNode word a ns)) g.known (λ m h. inr (inl h)) s)) in
    let reached = (access_reaches w frame a (left (right i))).of j l.stood (left_none v.broken _ none) settled in
    let at_v = led_then f block slots frame j v.known ((access-touches {strict = loose} frame a (everywhere A)).same j) l in
    each_led w block word slots d.value ns (right (right i)) (λ h. i.distinct.2 word refl (inr h)) (i.low word (inl refl)) d.known (record {
      at = refl;
      led = λ next listed. record_led f block slots word next frame a.name v.value v.known settled.ahead reached listed
          (left_none b.broken _ (right_none v.broken _ none)) at_v;
    }) more (settled_sub w.y (λ m. (word ≡ m) ⊎ Has R m) (Has (RecordsNode word a ns)) g.known (λ m h. elim h [
      | inl eq ↦ inl eq
      | inr r ↦ inr (inr r)
    ]) s)

with_tells : (w : World) {block : ℕ} {Q : ℕ → Type 0} {X : Type 0} (slots : List ℕ) (frame word : ℕ) (a : AccessTree) (ns : List NextAccessTree)
    (rest : Opened → Step ℕ) → Inside w.y (RecordsNode word a ns) → ((n : ℕ) → Has (RecordsNode word a ns) n → Q n)
    → ((x : Opened) → Kept (Off (Has (RecordsNode word a ns))) (rest x))
    → ((x : Opened) → Tells w.y (Led w.y.f block (with_slots ns (word ∷ slots)) x.frame) Q (rest x) X)
    → Tells w.y (Led w.y.f block slots frame) Q
    (first_record frame word a >>= λ one. each another_record one ns >>= λ all. link_element all.last 0 >>= λ _. rest all) X
unfolding ◌>>=◌
with_tells w {block = block} {Q = Q} slots frame word a ns rest i sub off h = record {
  of = λ j l none s.
      let N = RecordsNode word a ns in
      let d = first_record frame word a j in
      let e = each another_record d.value ns d.known in
      let g = link_element e.value.last 0 e.known in
      let z = rest e.value g.known in
      let after = right_none d.broken _ none in
      let settled = settled_before w.y (Has N) g.known z.known ((off e.value).same g.known) (settled_sub w.y (Has N) Q z.known sub s) in
      let led = records_led w block slots frame word a ns i j l (left_none d.broken _ none) (left_none e.broken _ after) settled in
      (h e.value).of g.known led (right_none g.broken z.broken (right_none e.broken (g.broken ++ z.broken) after)) s;
}

-- ---- statements

mutual
  statement_tells : (w : World) {block : ℕ} {P : List ℕ → CaseTree → Type 0} → Teller w block P → (slots : List ℕ) (frame : ℕ) (s : StatementTree)
      → Inside w.y (statement_node s)
      → Tells w.y (Led w.y.f block slots frame) (Has (statement_node s)) (statement_step frame s) (OfCases P slots s)
  statement_tells w t slots frame (tree.a_statement label p) i = tells_sub (λ n h. inr h)
      (labelled_tells frame label p (plain frame (label_token label) p) i (plain_tells w t slots frame (label_token label) p (right i)))

  plain_tells : (w : World) {block : ℕ} {P : List ℕ → CaseTree → Type 0} → Teller w block P → (slots : List ℕ) (frame : ℕ) (label : Option ℕ) (p : PlainTree)
      → Inside w.y (plain_node p)
      → Tells w.y (Led w.y.f block slots frame) (Has (plain_node p)) (plain frame label p) (CasesInside P slots p)
  plain_tells w t slots frame label tree.an_empty i = tells_none
  plain_tells w t slots frame label (tree.an_assignment a) i = tells_none
  plain_tells w t slots frame label (tree.a_procedure_call name actuals) i = tells_none
  plain_tells w t slots frame label (tree.a_goto word target) i = tells_none
  plain_tells w t slots frame label (tree.a_compound c) i = compound_tells w t slots frame c i
  plain_tells w t slots frame label (tree.an_if x) i = if_tells w t slots frame label x i
  plain_tells w t slots frame label (tree.a_case c) i = tells_both (t slots frame label c i) (case_tells w t slots frame label c i)
  plain_tells w t slots frame label (tree.a_repeat r) i = repeat_tells w t slots frame label r i
  plain_tells w t slots frame label (tree.a_while word condition do_word s) i =
      tells_then _ (condition_led frame condition) (λ c. tells_sub (λ n h. inr (inr (inr h)))
      (tells_first (λ body. while_row-touches label word c body (record { is = λ h. i.distinct.2 word refl (inr (inr h)) }))
      (statement_tells w t slots frame s (right (right (right i))))))
  plain_tells w t slots frame label (tree.a_for word name becomes initial direction last do_word s) i =
      tells_then _ (led (for_begins-touches {strict = loose} frame name initial last (anywhere name) (everywhere (expression_node initial))
      (everywhere (expression_node last)))) (λ b. tells_sub (λ n h. inr (inr (inr (inr (inr (inr (inr h)))))))
      (tells_first (λ body. for_ends-touches label word direction b body (record { is = λ h. i.distinct.2 word refl (inr (inr (inr (inr (inr (inr h)))))) })
      (every_off (statement_node s) (direction_node direction) (λ n h g. i.distinct.1.1.1.1.2 n g (inr (inr h)))))
      (statement_tells w t slots frame s (right (right (right (right (right (right (right i))))))))))
  plain_tells w t slots frame label (tree.a_with word first others do_word s) i =
      let whole = i.distinct in
      let z = Pair (leaf Terminal.WDo do_word) (statement_node s) in
      with_tells w slots frame word first others (λ x. statement_step x.frame s >>= λ body. put_with label word do_word body)
      (records_inside w.y word first others z i) (records_has word first others z)
      (λ x. bind_kept (kept (statement_step-touches x.frame s (every_by (Off (Has (RecordsNode word first others))) (statement_node s)
      (λ n h g. records_apart word first others z whole n (inr h) g))))
      (λ body. kept (put_with-touches label word do_word body (record { is = λ g. records_apart word first others z whole do_word (inl refl) g }))))
      (λ x. tells_sub (λ n h. inr (inr (inr (inr h))))
      (tells_first (λ body. put_with-touches label word do_word body (record { is = λ h. i.distinct.1.1.1.2 do_word refl h }))
      (statement_tells w t (with_slots others (word ∷ slots)) x.frame s (right (right (right (right i)))))))

  compound_tells : (w : World) {block : ℕ} {P : List ℕ → CaseTree → Type 0} → Teller w block P → (slots : List ℕ) (frame : ℕ) (c : CompoundTree)
      → Inside w.y (compound_node c)
      → Tells w.y (Led w.y.f block slots frame) (Has (compound_node c)) (compound frame c) (InCompound P slots c)
  compound_tells w t slots frame (tree.compound_statement word body end) i =
      tells_then _ (led (reaches_touch {Q = Anywhere} frame body)) (λ _. tells_sub (λ n h. inr (inl (stands body n h)))
      (tells_given (λ (e : Element). Of (Off (Stands body)) e.slot) (last_slot frame word body i.distinct.1.0 (λ h. i.distinct.2 word refl (inl h)))
      (λ last last-off. bind-touches (leaves_touch frame body)
      (λ _. compound_row-touches word last end last-off (record { is = λ h. i.distinct.1.2 end (stands body end h) refl })))
      (sequence_tells w t slots frame word body (left (right i)) (λ h. i.distinct.2 word refl (inl h)))))

  sequence_tells : (w : World) {block : ℕ} {P : List ℕ → CaseTree → Type 0} → Teller w block P → (slots : List ℕ) (frame list : ℕ) (s : StatementsTree)
      → Inside w.y (statements_node s)
      → (Has (statements_node s) list → ⊥) → Tells w.y (Led w.y.f block slots frame) (Stands s) (sequence frame list s) (InSequence P slots s)
  sequence_tells w t slots frame list (tree.statement_sequence first others) i off = tells_both
      (tells_sub (λ n h. inl h) (tells_first (λ n. more_statements-touches frame (element list n) others (record { is = λ h. off (inl h) })
      (every_off (statement_node first) (more_statements_node others) i.distinct.2)) (statement_tells w t slots frame first (left i))))
      (tells_then _ (statement_led frame first) (λ n. tells_sub (λ m h. inr h)
      (others_tell w t slots frame (element list n) others (right i) (λ h. off (inr h)))))

  others_tell : (w : World) {block : ℕ} {P : List ℕ → CaseTree → Type 0} → Teller w block P → (slots : List ℕ) (frame : ℕ) (last : Element) (r : StatementTrees)
      → Inside w.y (more_statements_node r)
      → (Has (more_statements_node r) last.slot → ⊥) → Tells w.y (Led w.y.f block slots frame) (InStatements r) (more_statements frame last r)
      (InOthers P slots r)
  others_tell w t slots frame last tree.end_of_statements i off = tells_none
  others_tell w t slots frame last (tree.more_statements semicolon s rest) i off =
      let s-node = statement_node s in
      let rest-node = more_statements_node rest in
      tells_both
      (tells_sub (λ n h. inl h) (tells_given (λ (e : Element). Of (Off (Has s-node)) e.slot)
      (added_slot last semicolon (statement_step frame s) (record { is = λ h. i.distinct.0.2 semicolon refl h }))
      (λ next next-off. more_statements-touches frame next rest next-off (every_off s-node rest-node (λ n h g. i.distinct.2 n (inr h) g)))
      (tells_first (λ n. add_element-touches last semicolon n (record { is = λ h. off (inl (inr h)) })) (statement_tells w t slots frame s (right (left i))))))
      (tells_by _ (λ (e : Element). Of (Off (Has rest-node)) e.slot)
      (led (bind-touches (statement_step-touches frame s (everywhere s-node)) (λ n. add_element-touches last semicolon n (anywhere last.slot))))
      (λ k o. added_slot last semicolon (statement_step frame s) (record { is = λ h. i.distinct.2 semicolon (inl refl) h }) k)
      (λ next next-off. tells_sub (λ m h. inr h) (others_tell w t slots frame next rest (right i) next-off.is)))

  if_tells : (w : World) {block : ℕ} {P : List ℕ → CaseTree → Type 0} → Teller w block P → (slots : List ℕ) (frame : ℕ) (label : Option ℕ) (x : IfTree)
      → Inside w.y (if_node x)
      → Tells w.y (Led w.y.f block slots frame) (Has (if_node x)) (if_statement frame label x) (InIf P slots x)
  if_tells w t slots frame label (tree.if_statement word condition then_word s alternative) i = tells_then _ (condition_led frame condition) (λ c. tells_both
      (tells_sub (λ n h. inr (inr (inr (inl h))))
      (tells_first (λ n. else_statement-touches frame (branching label word c n) alternative
      (record { is = λ h. i.distinct.2 word refl (inr (inr (inl h))) })
      (every_off (statement_node s) (else_node alternative) i.distinct.1.1.1.2))
      (statement_tells w t slots frame s (left (right (right (right i)))))))
      (tells_then _ (statement_led frame s) (λ n. tells_sub (λ m h. inr (inr (inr (inr h))))
      (else_tells w t slots frame (branching label word c n) alternative (right (right (right (right i))))
      (λ h. i.distinct.2 word refl (inr (inr (inr h))))))))

  else_tells : (w : World) {block : ℕ} {P : List ℕ → CaseTree → Type 0} → Teller w block P → (slots : List ℕ) (frame : ℕ) (b : Branching) (e : ElseTree)
      → Inside w.y (else_node e)
      → (Has (else_node e) b.word → ⊥) → Tells w.y (Led w.y.f block slots frame) (Has (else_node e)) (else_statement frame b e) (InElse P slots e)
  else_tells w t slots frame b tree.without_else i off = tells_none
  else_tells w t slots frame b (tree.an_else else_word s) i off = tells_sub (λ n h. inr h)
      (tells_first (λ n. if_else_row-touches b n (record { is = λ h. off (inr h) })) (statement_tells w t slots frame s (right i)))

  case_tells : (w : World) {block : ℕ} {P : List ℕ → CaseTree → Type 0} → Teller w block P → (slots : List ℕ) (frame : ℕ) (label : Option ℕ) (c : CaseTree)
      → Inside w.y (case_node c)
      → Tells w.y (Led w.y.f block slots frame) (Has (case_node c)) (case_statement frame label c) (InCase P slots c)
  case_tells w t slots frame label (tree.case_statement word selector of_word first others semicolon end) i =
      let last-node = last_semicolon_node semicolon in
      let one = branch_node first in
      let rest = branches_node others last-node in
      tells_by _ (λ (s : Selected). s.choosing.list ≡ of_word)
      (led (selected-touches {strict = loose} frame of_word selector (everywhere (expression_node selector))))
      (λ k o. selected_list frame of_word selector k) (λ s s-list.
      let off_one : Has one s.choosing.list → ⊥ = subst (λ n. Has one n → ⊥) (sym s-list) (λ h. i.distinct.1.1.2 of_word refl (inl h)) in
      let off_rest : Has rest s.choosing.list → ⊥ = subst (λ n. Has rest n → ⊥) (sym s-list) (λ h. i.distinct.1.1.2 of_word refl (inr (inl h))) in
      tells_both
      (tells_sub (λ n h. inr (inr (inr (inl h))))
      (tells_first (λ last. bind-touches (more_branches-touches frame s.choosing last others last-node (record { is = off_one })
      (every_off one rest (λ n h g. i.distinct.1.1.1.2 n h (inl g))))
      (λ _. case_row-touches label word s.row of_word (record { is = λ h. i.distinct.2 word refl (inr (inr (inl h))) })))
      (branch_tells w t slots frame s.choosing of_word of_word first (left (right (right (right i)))) off_one (λ h. i.distinct.1.1.2 of_word refl (inl h)))))
      (tells_then _ (led (branch_step-touches frame s.choosing of_word of_word first (anywhere s.choosing.list) (anywhere of_word) (everywhere one)))
      (λ last. tells_sub (λ n h. inr (inr (inr (inr (inl h)))))
      (tells_first (λ _. case_row-touches label word s.row of_word (record { is = λ h. i.distinct.2 word refl (inr (inr (inr (inl h)))) }))
      (branches_tell w t slots frame s.choosing last others last-node (left (right (right (right (right i))))) off_rest)))))

  branch_tells : (w : World) {block : ℕ} {P : List ℕ → CaseTree → Type 0} → Teller w block P
      → (slots : List ℕ) (frame : ℕ) (c : Choosing) (last slot : ℕ) (b : BranchTree)
      → Inside w.y (branch_node b)
      → (Has (branch_node b) c.list → ⊥) → (Has (branch_node b) slot → ⊥)
      → Tells w.y (Led w.y.f block slots frame) (Has (branch_node b)) (branch_step frame c last slot b) (InBranch P slots b)
  branch_tells w t slots frame c last slot (tree.a_branch constants colon s) i off_list off_slot = tells_sub (λ n h. inr (inr h))
      (tells_first (λ n. choices-touches c n last slot constants (record { is = λ h. off_list (inr (inr h)) }) (record { is = λ h. off_slot (inr (inr h)) })
      (every_off (statement_node s) (constants_node constants) (λ m h g. i.distinct.2 m g (inr h))))
      (statement_tells w t slots frame s (right (right i))))

  branches_tell : (w : World) {block : ℕ} {P : List ℕ → CaseTree → Type 0} → Teller w block P
      → (slots : List ℕ) (frame : ℕ) (c : Choosing) (last : ℕ) (r : BranchTrees) (end : Node)
      → Inside w.y (branches_node r end) → (Has (branches_node r end) c.list → ⊥)
      → Tells w.y (Led w.y.f block slots frame) (Has (branches_node r end)) (more_branches frame c last r) (InBranches P slots r)
  branches_tell w t slots frame c last tree.end_of_branches end i off = tells_none
  branches_tell w t slots frame c last (tree.more_branches semicolon b rest) end i off = tells_both
      (tells_sub (λ n h. inr (inl h))
      (tells_first (λ next. more_branches-touches frame c next rest end (record { is = λ h. off (inr (inl h)) })
      (every_off (branch_node b) (branches_node rest end) i.distinct.1.2))
      (branch_tells w t slots frame c last semicolon b (left (right i)) (λ h. off (inr (inl h))) (λ h. i.distinct.2 semicolon refl (inl h)))))
      (tells_then _ (led (branch_step-touches frame c last semicolon b (anywhere c.list) (anywhere semicolon) (everywhere (branch_node b))))
      (λ next. tells_sub (λ n h. inr (inr h)) (branches_tell w t slots frame c next rest end (right (right i)) (λ h. off (inr (inr h))))))

  repeat_tells : (w : World) {block : ℕ} {P : List ℕ → CaseTree → Type 0} → Teller w block P → (slots : List ℕ) (frame : ℕ) (label : Option ℕ) (r : RepeatTree)
      → Inside w.y (repeat_node r)
      → Tells w.y (Led w.y.f block slots frame) (Has (repeat_node r)) (repeat_statement frame label r) (InRepeat P slots r)
  repeat_tells w t slots frame label (tree.repeat_statement word body until_word condition) i =
      tells_then _ (led (reaches_touch {Q = Anywhere} frame body)) (λ _. tells_sub (λ n h. inr (inl (stands body n h)))
      (tells_given (λ (e : Element). Of (Off (Stands body)) e.slot) (last_slot frame word body i.distinct.1.0 (λ h. i.distinct.2 word refl (inl h)))
      (λ last last-off. bind-touches (leaves_touch frame body) (λ _. bind-touches (link_element-touches last 0 last-off) (λ _.
      bind-touches (condition_row-touches frame condition
      (every {P = Has (expression_node condition)} (λ n h g. i.distinct.1.2 n (stands body n g) (inr h)) (expression_node condition)
      (every_has (expression_node condition))))
      (λ c. repeat_row-touches label word until_word c (record { is = λ h. i.distinct.1.2 until_word (stands body until_word h) (inl refl) })))))
      (sequence_tells w t slots frame word body (left (right i)) (λ h. i.distinct.2 word refl (inl h)))))

-- ---- what blocks touch

function_touches : {Q : ℕ → Type 0} (function : Bool) (name : ℕ) → Of Q name → Touches Q loose (function_result function name)
unfolding function_result
function_touches function name here = bind-touches (look-touches (λ k. has_result k function name)) (λ fine. result-touches refl name fine here)

part_touches : {Q : ℕ → Type 0} (frame : ℕ) (span : Span) (c : CompoundTree) → Every Q (compound_node c) → Touches Q loose (statement_part frame span c)
unfolding statement_part
part_touches frame span c here =
    bind-touches (enter_block-touches span) (λ _. bind-touches (compound-touches frame c here) (λ _. give-touches tt))

heading_stands : (h : HeadingTree) → Has (heading_node h) (heading_name h)
heading_stands (headings.a_procedure (headings.procedure_heading word name formals)) = inr (inl refl)
heading_stands (headings.a_function (headings.function_heading word name formals result)) = inr (inl refl)

heading_every : {Q : ℕ → Type 0} (h : HeadingTree) → Every Q (heading_node h) → Of Q (heading_name h)
heading_every (headings.a_procedure (headings.procedure_heading word name formals)) here = here.1.0
heading_every (headings.a_function (headings.function_heading word name formals result)) here = here.1.0

mutual
  pub block_touches : {Q : ℕ → Type 0} (frame : ℕ) (b : BlockTree) → Every Q (block_node b) → Touches Q loose (code_block frame b)
  block_touches frame (blocks.a_block labels constants types variables routines body) here =
      bind-touches (reaches_touch frame (compound_body body)) (λ _. bind-touches (routines_touch routines here.1.1.1.1.0) (λ _.
      part_touches frame (span_of (blocks.a_block labels constants types variables routines body)) body here.1.1.1.1.1))

  routines_touch : {Q : ℕ → Type 0} (rs : RoutineTrees) → Every Q (routines_node rs) → Touches Q loose (code_routines rs)
  routines_touch blocks.end_of_routines here = give-touches tt
  routines_touch (blocks.more_routines r rest) here = bind-touches (routine_touches r here.0) (λ _. routines_touch rest here.1)

  routine_touches : {Q : ℕ → Type 0} (r : RoutineTree) → Every Q (routine_node r) → Touches Q loose (code_routine r)
  routine_touches (blocks.a_routine heading semicolon body last_semicolon) here =
      body_touches (is_function heading) (heading_name heading) body (heading_every heading here.0) here.1.1.0

  body_touches : {Q : ℕ → Type 0} (function : Bool) (name : ℕ) (body : BodyTree) → Of Q name → Every Q (body_node body)
      → Touches Q loose (code_body function name body)
  body_touches function name (blocks.a_directive directive) name-in here = give-touches tt
  body_touches function name (blocks.a_block_body b) name-in here =
      bind-touches (look-touches _) (λ frame. bind-touches (block_touches frame b here) (λ _. function_touches function name name-in))

-- ---- blocks

coded_led : (f k j : Known) (frame : ℕ) → Stood f k → Outward k.frames frame → Coded k j → Led f frame [] frame j
coded_led f k j frame stood o c =
    record { outward = outward_then k j frame c.same.frames o; around = refl; stood = stood_later f k j c.same stood }

-- what holds of the case statements of a block, by its frame
abbrev pub BlockTeller : World → (ℕ → List ℕ → CaseTree → Type 0) → Type 0
BlockTeller w P = (block : ℕ) → Teller w block (P block)

part_tells : (w : World) {P : ℕ → List ℕ → CaseTree → Type 0} → BlockTeller w P → (k : Known) → Stood w.y.f k → (frame : ℕ) → Outward k.frames frame
    → (span : Span)
    (c : CompoundTree) → Inside w.y (compound_node c) → Tells w.y (Coded k) (Has (compound_node c)) (statement_part frame span c) (InCompound (P frame) [] c)
unfolding statement_part
part_tells w t k stood frame o span c i = tells_then _ (coded (enter_block-touches span)) (λ _. tells_first (λ _. give-touches tt)
    (tells_led (λ j h. coded_led w.y.f k j frame stood o h) (compound_tells w (t frame) [] frame c i)))

-- what a row says of the frame of its routine
first_said : (r : Row) → first_name (said r) ≡ first_name r
first_said (Row.Name (NameRow.Constant of' v)) = refl
first_said (Row.Name (NameRow.Text token)) = refl
first_said (Row.Name (NameRow.Label marked value level ways)) = refl
first_said (Row.Name (NameRow.Routine assigned number region)) = refl
first_said (Row.Part (PartRow.Completing first)) = refl
first_said (Row.Part (PartRow.Heading name sections result)) = refl
first_said r = refl

region_said : (r : Row) → routine_region (said r) ≡ routine_region r
region_said (Row.Name (NameRow.Constant of' v)) = refl
region_said (Row.Name (NameRow.Text token)) = refl
region_said (Row.Name (NameRow.Label marked value level ways)) = refl
region_said (Row.Name (NameRow.Routine assigned number region)) = refl
region_said (Row.Part (PartRow.Completing first)) = refl
region_said (Row.Part (PartRow.Heading name sections result)) = refl
region_said r = refl

said_both : (f j : Known) → Stood f j → Ahead f j → (n : ℕ) → said (row_at f n) ≡ said (row_at j n)
said_both f j stood ahead n = elim (stood.of n) [
  | inl none ↦ elim (ahead.sayings n) [
    | inl e ↦ e ∙ sym none
    | inr e ↦ e
  ]
  | inr e ↦ e
]

-- the frame of a routine's first heading is the one at the end
own_frames : (f j : Known) → Stood f j → Ahead f j → (name : ℕ) → own_frame j name ≡ own_frame f name
own_frames f j stood ahead name =
    ap (λ n. (region_at j.regions n).frame)
    (sym (region_said (row_at j name)) ∙ ap routine_region (sym (said_both f j stood ahead name)) ∙ region_said (row_at f name))
    ∙ ap (λ (rs : List RegionRows). (region_at rs (routine_region (row_at f name))).frame) (sym ahead.regions)

own_at : (f j : Known) → Stood f j → Ahead f j → (name : ℕ) → own_frame j (name_in_first j name) ≡ own_frame f (name_in_first f name)
own_at f j stood ahead name =
    own_frames f j stood ahead (name_in_first j name)
    ∙ ap (λ (o : Option ℕ). own_frame f (unwrap_or o name))
    (sym (first_said (row_at j name)) ∙ ap first_name (sym (said_both f j stood ahead name)) ∙ first_said (row_at f name))

-- by what the tables say, and by what is so of that
looked_both : {y : Checked} {I : Known → Type 0} {Q : ℕ → Type 0} {A B Z : Type 0} (f : Known → A) (g : A → Step B) (X Y : A → Type 0)
    → ((a : A) → X a → Y a → Z) → ((j : Known) → I j → Tells y I Q (g (f j)) (X (f j)))
    → ((j : Known) → I j → Settled y Q ((look f >>= g) j).known → Y (f j)) → Tells y I Q (look f >>= g) Z
unfolding look ◌>>=◌
looked_both f g X Y make h own = record { of = λ j i none s. make (f j) ((h j i).of j i none s) (own j i s) }

mutual
  pub block_tells : (w : World) → BlockTeller w (CaseIsRight w.y.f) → (k : Known) → Tidy k → Stood w.y.f k → (frame : ℕ) → Outward k.frames frame
      → (b : BlockTree)
      → Inside w.y (block_node b)
      → Tells w.y (Coded k) (Has (block_node b)) (code_block frame b)
      (CasesOf (CaseIsRight w.y.f frame) b × OfRoutines (λ r. BodyIsRight w.y.f (routine_name r) (routine_body r)) b)
  block_tells w t k tidy stood frame o (blocks.a_block labels constants types variables routines body) i =
      let span = span_of (blocks.a_block labels constants types variables routines body) in
      tells_then _ (coded (reaches_touch {Q = Anywhere} frame (compound_body body))) (λ _. tells_both
      (tells_then _ (coded (routines_touch {Q = Anywhere} routines (everywhere (routines_node routines))))
      (λ _. tells_sub (λ n h. inr (inr (inr (inr (inr h))))) (part_tells w t k stood frame o span body (right (right (right (right (right i))))))))
      (tells_sub (λ n h. inr (inr (inr (inr (inl h)))))
      (tells_first (λ _. part_touches frame span body (every_off (routines_node routines) (compound_node body) i.distinct.1.1.1.1.2))
      (routines_tell w t k tidy stood routines (left (right (right (right (right i)))))))))

  routines_tell : (w : World) → BlockTeller w (CaseIsRight w.y.f) → (k : Known) → Tidy k → Stood w.y.f k → (rs : RoutineTrees) → Inside w.y (routines_node rs)
      → Tells w.y (Coded k) (Has (routines_node rs)) (code_routines rs) (OfEach (λ r. BodyIsRight w.y.f (routine_name r) (routine_body r)) rs)
  routines_tell w t k tidy stood blocks.end_of_routines i = tells_none
  routines_tell w t k tidy stood (blocks.more_routines r rest) i = tells_both
      (tells_sub (λ n h. inl h) (tells_first (λ _. routines_touch rest (every_off (routine_node r) (routines_node rest) i.distinct.2))
      (routine_tells w t k tidy stood r (left i))))
      (tells_then _ (coded (routine_touches {Q = Anywhere} r (everywhere (routine_node r))))
      (λ _. tells_sub (λ n h. inr h) (routines_tell w t k tidy stood rest (right i))))

  routine_tells : (w : World) → BlockTeller w (CaseIsRight w.y.f) → (k : Known) → Tidy k → Stood w.y.f k → (r : RoutineTree) → Inside w.y (routine_node r)
      → Tells w.y (Coded k) (Has (routine_node r)) (code_routine r) (OfRoutine (λ r. BodyIsRight w.y.f (routine_name r) (routine_body r)) r)
  routine_tells w t k tidy stood (blocks.a_routine heading semicolon (blocks.a_directive directive) last_semicolon) i = tells_both tells_none tells_none
  routine_tells w t k tidy stood (blocks.a_routine heading semicolon (blocks.a_block_body b) last_semicolon) i =
      let name = heading_name heading in
      let function = is_function heading in
      let off : Has (block_node b) name → ⊥ = λ h. i.distinct.2 name (heading_stands heading) (inr (inl h)) in
      let touches = body_touches {Q = Anywhere} function name (blocks.a_block_body b) (anywhere name) (everywhere (block_node b)) in
      looked_both (λ j. own_frame j (name_in_first j name)) (λ frame. code_block frame b >>= λ _. function_result function name)
      (λ frame. CasesOf (CaseIsRight w.y.f frame) b × OfRoutines (λ r. BodyIsRight w.y.f (routine_name r) (routine_body r)) b)
      (λ frame. frame ≡ own_frame w.y.f (name_in_first w.y.f name))
      (λ frame x own. (subst (λ n. CasesOf (CaseIsRight w.y.f n) b) own x.0, x.1))
      (λ j c. tells_sub {Q = Has (block_node b)} (λ n h. inr (inr (inl h)))
      (tells_first (λ _. function_touches function name (record { is = off }))
      (block_tells w t k tidy stood (own_frame j (name_in_first j name)) (own_then k j (name_in_first j name) tidy c) b (left (right (right i))))))
      (λ j c s. own_at w.y.f j (stood_later w.y.f k j c.same stood)
      (ahead_before w.y.f j (code_body function name (blocks.a_block_body b) j).known (touches.same j) s.ahead) name)
