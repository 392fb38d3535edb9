-- The labels in front of the statements of a text.
use Rattle.std.proofs.Common.{◌++◌, ◌<◌, ◌||◌, ◌∙◌, ◌∷◌, ◌≡◌, [], ℕ, Bool, List, None, Option, Some, ap, arith, false, inl, inr, length, nat_eq, refl}
use Rattle.std.proofs.Common.{slice_get, subst, suc, sym, true, unwrap_or, zero}
use Rattle.std.proofs.lemmas.{Bool.Decides.nat_tests, List.append_assoc, Option.none-some}
use Rattle.pas_lexer.specs.Lexed.{Lexed}
use Rattle.pas_tree.specs.{HeadingPlaces.heading_name, TreeNodes.compound_node, TreeNodes.statements_node}
use Rattle.pas_tree.specs.BlockTrees.{BlockTree, BodyTree, ProgramTree, RoutineTree, RoutineTrees, routine_body}
use Rattle.pas_tree.specs.BlockTrees as tree
use Rattle.pas_tree.specs.StatementTrees.{CompoundTree, compound_body}
use Rattle.core_program.specs.{ProgramRows.type_in, declared.rows.NameRow.NameRow, declared.rows.PartRow.PartRow, declared.rows.Row.Row}
use Rattle.check_steps.specs.{Steps.◌>>=◌, Steps.Step, Steps.look, Words.known_at_start}
use Rattle.check_steps.specs.Known.{Known, find_label, find_label_from, frame_at, label_at, row_at, type_at}
use Rattle.check_steps.specs.Regions.{RegionRows, declared_in, or_else, region_at}
use Rattle.check_steps.specs.declared.{breaks.Break.Break, regions.Frame.Frame, regions.Span.Span, words.SpelledToken.SpelledToken}
use Rattle.denoter_checker.specs.Formals.{is_function}
use Rattle.decl_checker.specs.{Programs.program_step, Routines.own_frame, Scopes.routine_region, Statements.fields_in}
use Rattle.statement_checker.specs.{Labels.row_of, Statements.compound}
use Rattle.code_checker.specs.{CheckedPrograms.broken, CheckedPrograms.check_step, CodePlaces.span_of}
use Rattle.code_checker.specs.Blocks.{code_block, code_body, code_routine, code_routines, statement_part}
use Rattle.code_checker.specs.Results.{function_result, has_result, name_in_first}
use Rattle.rule_laws.proofs.{Alike.type_said, Breaks.Each, Breaks.In, Breaks.contained, Breaks.in_right, Faces.fine_in, Faces.loose, Faces.said, Keeping.Keeps}
use Rattle.rule_laws.proofs.{LabelsTold.compound_tells, Outward.Outward, Outward.outward_longer, Standing.got_still, Standing.no_frame}
use Rattle.rule_laws.proofs.{StatementLabels.reach_all-touches, StatementStatements.compound-touches, TextFields.IsTold, TextFields.Text, TextRoutines.no_split}
use Rattle.rule_laws.proofs.Gives.{Gives, gives_both, gives_first, gives_none, gives_then}
use Rattle.rule_laws.proofs.LabelTold.{Anywhere, Inside, IsWhere, Seen, Where, Wrong, anywhere, everywhere}
use Rattle.rule_laws.proofs.Listed.{Listed, each_listed, listed_left, listed_right}
use Rattle.rule_laws.proofs.TextTables.{IsHome, Labelled, Labelling, Programs, Tidy, defines_first, labelling, outer_frame, program_walked}
use Rattle.rule_laws.proofs.Touches.{Same, Touches, bind-touches, enter_block-touches, give-touches, look-touches, result-touches, same_in, same_then}
use Rattle.rule_laws.specs.{BlockLabels.compound_labels, CaseLaws.late_at, NameLaws.block_labels, RegionNames.labels_of}
use Rattle.rule_laws.specs.TextLaws.{MarksAreTold, TextsTellMarks, UndeclaredAreTold, all_labels, all_labels_in, has_label, labels_in_body, labels_in_routine}
use Rattle.rule_laws.specs.TextLaws.{labels_in_routines, statement_labels, statement_labels_in}
use Rattle.rule_laws.specs.TextParts.{OfBody, OfEach, OfRoutine, OfRoutines}

-- ---- what the statements leave of the tables

pub record Coded (k j : Known) : Type 0 where
  pub same : Same Anywhere loose k j

pub coded : {k : Known} {A : Type 0} {m : Step A} → Touches Anywhere loose m → Keeps (Coded k) m
coded {k = k} {m = m} touches = record { of = λ j i. record { same = same_then k j (m j).known i.same (touches.same j) } }

statement_part-touches : (frame : ℕ) (span : Span) (c : CompoundTree) → Touches Anywhere loose (statement_part frame span c)
unfolding statement_part
statement_part-touches frame span c = bind-touches (enter_block-touches span) (λ _.
    bind-touches (compound-touches frame c (everywhere (compound_node c))) (λ _. give-touches tt))

function_result-touches : (function : Bool) (name : ℕ) → Touches Anywhere loose (function_result function name)
unfolding function_result
function_result-touches function name = bind-touches (look-touches (λ k. has_result k function name)) (λ fine. result-touches refl name fine (anywhere name))

mutual
  pub code_block-touches : (frame : ℕ) (b : BlockTree) → Touches Anywhere loose (code_block frame b)
  code_block-touches frame (tree.a_block labels constants types variables routines body) =
      bind-touches (reach_all-touches frame (compound_body body) (everywhere (statements_node (compound_body body)))) (λ _.
      bind-touches (code_routines-touches routines) (λ _.
      statement_part-touches frame (span_of (tree.a_block labels constants types variables routines body)) body))

  pub code_routines-touches : (rs : RoutineTrees) → Touches Anywhere loose (code_routines rs)
  code_routines-touches tree.end_of_routines = give-touches tt
  code_routines-touches (tree.more_routines r rest) = bind-touches (code_routine-touches r) (λ _. code_routines-touches rest)

  pub code_routine-touches : (r : RoutineTree) → Touches Anywhere loose (code_routine r)
  code_routine-touches (tree.a_routine heading semicolon body last_semicolon) = code_body-touches (is_function heading) (heading_name heading) body

  code_body-touches : (function : Bool) (name : ℕ) (body : BodyTree) → Touches Anywhere loose (code_body function name body)
  code_body-touches function name (tree.a_directive directive) = give-touches tt
  code_body-touches function name (tree.a_block_body b) = bind-touches (look-touches (λ k. own_frame k (name_in_first k name))) (λ frame.
      bind-touches (code_block-touches frame b) (λ _. function_result-touches function name))

-- ---- the statements of a block

-- what is known of the text where its statements begin
pub record Begun (x : Text) (k : Known) : Type 0 where
  pub tidy : Tidy k
  pub words : k.words ≡ x.k.words

pub types_before : (k j : Known) → Same Anywhere loose k j → (n region : ℕ) → fields_in (type_at j n) ≡ Some region → fields_in (type_at k n) ≡ Some region
types_before k j s n region e = elim (s.sayings n) [
  | inl nothing ↦
      let none : type_at j n ≡ None = sym (type_said (row_at j n)) ∙ ap type_in nothing.1 in
      absurd (none-some region (sym (ap fields_in none) ∙ e))
  | inr same ↦ ap fields_in (sym (type_said (row_at k n)) ∙ sym (ap type_in same) ∙ type_said (row_at j n)) ∙ e
]

or_assoc : (a b c : Bool) → ((a || b) || c) ≡ (a || (b || c))
or_assoc true b c = refl
or_assoc false b c = refl

or_none : (a : Bool) → (a || false) ≡ a
or_none true = refl
or_none false = refl

pub wrong_at : (p : Where) (s : Bool) (before after : List ℕ) → (s || has_label p.k before p.t) ≡ true → Wrong p s (before ++ p.t ∷ after)
wrong_at p s [] after e = inl (refl, sym (or_none s) ∙ e)
wrong_at p s (y ∷ ys) after e =
    let q = nat_eq (label_at p.k p.t) (label_at p.k y) in
    inr (wrong_at p (s || q) ys after (or_assoc s q (has_label p.k ys p.t) ∙ e))

-- where the label's step tells once it may mark no statement
pub told_from : (x : Text) (k : Known) → Begun x k → (frame : ℕ) → Outward k.frames frame → (c : CompoundTree) (j : Known) → Coded k j → (label : ℕ) (s : Bool)
    → (s ≡ true → fine_in (frame_at j frame).level (row_of j (find_label j frame (label_at j label))) ≡ false)
    → Wrong (record { k = j; frame = frame; t = label }) s (compound_labels c)
    → In (late_at 15 label) (compound frame c j).broken
told_from x k begun frame outward c j i label s spent wrong =
    let p : Where = record { k = j; frame = frame; t = label } in
    let same = i.same in
    let out : Outward j.frames frame =
    subst (λ (fs : List Frame). Outward fs frame) (sym same.frames.is) (outward_longer k.frames same.frames.more frame outward) in
    let is : IsWhere p = record {
      outward = out;
      records = λ n region v e. ap (λ (rs : List RegionRows). declared_in rs region v) same.regions
          ∙ (begun.tidy.typed n region (types_before k j same n region e)).none v;
    } in
    let here : Inside p j frame = record { outward = out; level = refl; finds = λ v. refl } in
    let S : ℕ → Type 0 = λ g. g ≡ frame in
    let seen : Seen p S s j = record {
      turn = record {
        words = refl;
        regions = refl;
        sayings = λ n. inr refl;
        spent = spent;
      };
      inside = λ g e. subst (Inside p j) (sym e) here;
    } in
    ((compound_tells p is S frame refl c).of s j seen).told wrong

-- where none is found
unfound : (j : Known) (frame v : ℕ) → find_label j frame v ≡ None → fine_in (frame_at j frame).level (row_of j (find_label j frame v)) ≡ false
unfound j frame v none = ap (λ (o : Option ℕ). fine_in (frame_at j frame).level (row_of j o)) none

-- what the statements of a block give, by their labels
record Giver (x : Text) (k : Known) (T : List ℕ → Type 0) : Type 0 where
  none : T []
  gives : (frame : ℕ) → Outward k.frames frame → (c : CompoundTree) → Gives (Coded k) (IsTold x) (compound frame c) (T (compound_labels c))

seconds : (x : Text) (k : Known) → Begun x k → Giver x k (MarksAreTold x.k x.bs)
seconds x k begun = record {
  none = λ before label after same second. absurd (no_split before label after same);
  gives = λ frame outward c. record {
    of = λ j i w before label after same second.
        let p : Where = record { k = j; frame = frame; t = label } in
        let spelled = i.same.words ∙ begun.words in
        let second_here = ap (λ (ws : List SpelledToken). has_label (record x.k { words = ws }) before label) spelled ∙ second in
        let wrong = subst (Wrong p false) (sym same) (wrong_at p false before after second_here) in
        w (late_at 15 label) (told_from x k begun frame outward c j i label false (λ e. absurd (let never : false ≡ true = e in cc)) wrong);
  };
}

-- ---- labels that no label part has

none_found : (j : Known) (v n : ℕ) (at : Option ℕ) → ((region d : ℕ) → declared_in j.regions region v ≡ Some d → ⊥) → find_label_from n j at v ≡ None
none_found j v zero None none = refl
none_found j v (suc n) None none = refl
none_found j v zero (Some f) none = refl
none_found j v (suc n) (Some f) none = by (declared_in j.regions (frame_at j f).region v) refl (none_found j v n (frame_at j f).outer none)
  where
    by : (o : Option ℕ) → declared_in j.regions (frame_at j f).region v ≡ o → find_label_from n j (frame_at j f).outer v ≡ None
        → or_else o (find_label_from n j (frame_at j f).outer v) ≡ None
    by None e rest = rest
    by (Some d) e rest = absurd (none (frame_at j f).region d e)

-- none is declared in a region
not_there : (j : Known) (v region : ℕ) → ((d : ℕ) → declared_in j.regions region v ≡ Some d → ⊥) → declared_in j.regions region v ≡ None
not_there j v region none = by (declared_in j.regions region v) refl
  where
    by : (o : Option ℕ) → declared_in j.regions region v ≡ o → o ≡ None
    by None e = refl
    by (Some d) e = absurd (none d e)

at_below : (j : Known) (n : ℕ) (f : Frame) (bound : ℕ) → slice_get j.frames n ≡ Some f → f.region < bound → (frame_at j n).region < bound
at_below j n f bound own below = subst (λ (o : Option Frame). (unwrap_or o no_frame).region < bound) (sym own) below

same_number : {a b : ℕ} → a ≡ b → nat_eq a b ≡ true
same_number h = grind (arith, nat_tests)

pub listed_has : (k : Known) (xs : List ℕ) (n x : ℕ) → Listed xs n → label_at k n ≡ label_at k x → has_label k xs x ≡ true
listed_has k [] n x h same = absurd h
listed_has k (a ∷ xs) n x (inl e) same = first (nat_eq (label_at k x) (label_at k a)) (has_label k xs x) (same_number (sym same ∙ ap (label_at k) (sym e)))
  where
    first : (b c : Bool) → b ≡ true → (b || c) ≡ true
    first true c e = refl
    first false c e = absurd (let never : false ≡ true = e in cc)
listed_has k (a ∷ xs) n x (inr h) same = later (nat_eq (label_at k x) (label_at k a)) (has_label k xs x) (listed_has k xs n x h same)
  where
    later : (b c : Bool) → c ≡ true → (b || c) ≡ true
    later true c e = refl
    later false c e = e

undeclared : (x : Text) (k : Known) (all : List ℕ) → Begun x k
    → ((region v d : ℕ) → declared_in k.regions region v ≡ Some d → (label_at x.k d ≡ v) × Listed all d)
    → Giver x k (UndeclaredAreTold x.k x.bs all)
undeclared x k all begun declared = record {
  none = λ before label after same off. absurd (no_split before label after same);
  gives = λ frame outward c. record {
    of = λ j i w before label after same off.
        let p : Where = record { k = j; frame = frame; t = label } in
        let spelled : label_at j label ≡ label_at x.k label
        = ap (λ (ws : List SpelledToken). label_at (record x.k { words = ws }) label) (i.same.words ∙ begun.words) in
        let none : (region d : ℕ) → declared_in j.regions region (label_at j label) ≡ Some d → ⊥ = λ region d e.
        let is = declared region (label_at j label) d (sym (ap (λ (rs : List RegionRows). declared_in rs region (label_at j label)) i.same.regions) ∙ e) in
        let never : true ≡ false = sym (listed_has x.k all d label is.1 (is.0 ∙ spelled)) ∙ off in cc in
        let wrong = subst (Wrong p true) (sym same) (wrong_at p true before after refl) in
        w (late_at 15 label)
        (told_from x k begun frame outward c j i label true
        (λ e. unfound j frame (label_at j label) (none_found j (label_at j label) (length j.frames) (Some frame) none)) wrong);
  };
}

-- ---- blocks in blocks

pub looked_gives : {I : Known → Type 0} {Told : Break → Type 0} {A B X : Type 0} (f : Known → A) (g : A → Step B)
    → ((j : Known) → I j → Gives I Told (g (f j)) X) → Gives I Told (look f >>= g) X
unfolding look ◌>>=◌
looked_gives f g rest = record { of = λ j i w. (rest j i).of j i w }

pub record RoutineRow (r : Row) (number region : ℕ) : Type 0 where
  pub assigned : Bool
  pub is : r ≡ Row.Name (NameRow.Routine assigned number region)

pub said_routine : (r : Row) (number region : ℕ) → said r ≡ Row.Name (NameRow.Routine false number region) → RoutineRow r number region
said_routine (Row.Type t) number region e = absurd cc
said_routine (Row.Name (NameRow.Constant of' v)) number region e = absurd cc
said_routine (Row.Name (NameRow.Text token)) number region e = absurd cc
said_routine (Row.Name (NameRow.Label marked value level ways)) number region e = absurd cc
said_routine (Row.Name (NameRow.Routine assigned n g)) number region e =
    let a : n ≡ number = cc in
    let b : g ≡ region = cc in
    record { assigned = assigned; is = ap (λ i. Row.Name (NameRow.Routine assigned i g)) a ∙ ap (λ i. Row.Name (NameRow.Routine assigned number i)) b }
said_routine (Row.Part (PartRow.Completing first)) number region e = absurd cc
said_routine r number region e = absurd cc

-- the region of a routine's row is as it was where the statements began
pub home_then : (k j : Known) (name : ℕ) → Tidy k → Coded k j → (r : Row) → row_at j name ≡ r → IsHome k (routine_region r)
home_then k j name tidy i (Row.Name (NameRow.Routine assigned number region)) e = elim (i.same.sayings name) [
  | inl nothing ↦ absurd (let never : Row.Name (NameRow.Routine false number region) ≡ Row.Nothing = sym (ap said e) ∙ nothing.1 in cc)
  | inr same ↦ (let row = said_routine (row_at k name) number region (sym same ∙ ap said e) in tidy.heads name row.assigned number region row.is)
]
home_then k j name tidy i (Row.Name r) e = tidy.first
home_then k j name tidy i r e = tidy.first

pub own_then : (k j : Known) (name : ℕ) → Tidy k → Coded k j → Outward k.frames (own_frame j name)
own_then k j name tidy i =
    subst (λ (rs : List RegionRows). Outward k.frames (region_at rs (routine_region (row_at j name))).frame) (sym i.same.regions)
    (home_then k j name tidy i (row_at j name) refl).outward

abbrev Marks : (List ℕ → Type 0) → RoutineTree → Type 0
Marks T r = T (statement_labels_in (routine_body r))

part_told : {x : Text} {k : Known} {T : List ℕ → Type 0} → Begun x k → Giver x k T → (frame : ℕ) → Outward k.frames frame → (span : Span) (c : CompoundTree)
    → Gives (Coded k) (IsTold x) (statement_part frame span c) (T (compound_labels c))
unfolding statement_part
part_told begun giver frame outward span c =
    gives_then (coded (enter_block-touches span)) (λ _. gives_first _ (giver.gives frame outward c))

mutual
  code_told : {x : Text} {k : Known} {T : List ℕ → Type 0} → Begun x k → Giver x k T → (frame : ℕ) → Outward k.frames frame → (b : BlockTree)
      → Gives (Coded k) (IsTold x) (code_block frame b) (T (statement_labels b) × OfRoutines (Marks T) b)
  code_told {k = k} begun giver frame outward (tree.a_block labels constants types variables routines body) =
      let b = tree.a_block labels constants types variables routines body in
      let reach = coded {k = k} (reach_all-touches frame (compound_body body) (everywhere (statements_node (compound_body body)))) in
      gives_both
      (gives_then reach (λ _. gives_then (coded (code_routines-touches routines)) (λ _. part_told begun giver frame outward (span_of b) body)))
      (gives_then reach (λ _. gives_first _ (routines_told begun giver routines)))

  routines_told : {x : Text} {k : Known} {T : List ℕ → Type 0} → Begun x k → Giver x k T → (rs : RoutineTrees)
      → Gives (Coded k) (IsTold x) (code_routines rs) (OfEach (Marks T) rs)
  routines_told begun giver tree.end_of_routines = gives_none
  routines_told begun giver (tree.more_routines r rest) =
      gives_both (gives_first _ (routine_told begun giver r)) (gives_then (coded (code_routine-touches r)) (λ _. routines_told begun giver rest))

  routine_told : {x : Text} {k : Known} {T : List ℕ → Type 0} → Begun x k → Giver x k T → (r : RoutineTree)
      → Gives (Coded k) (IsTold x) (code_routine r) (OfRoutine (Marks T) r)
  routine_told begun giver (tree.a_routine heading semicolon body last_semicolon) = body_told begun giver (is_function heading) (heading_name heading) body

  body_told : {x : Text} {k : Known} {T : List ℕ → Type 0} → Begun x k → Giver x k T → (function : Bool) (name : ℕ) (body : BodyTree)
      → Gives (Coded k) (IsTold x) (code_body function name body) (T (statement_labels_in body) × OfBody (Marks T) body)
  body_told begun giver function name (tree.a_directive directive) =
      record { of = λ j i w. (giver.none, tt) }
  body_told {k = k} begun giver function name (tree.a_block_body b) =
      looked_gives (λ j. own_frame j (name_in_first j name)) (λ frame. code_block frame b >>= λ _. function_result function name)
      (λ j i. gives_first _ (code_told begun giver (own_frame j (name_in_first j name)) (own_then k j (name_in_first j name) begun.tidy i) b))

-- ---- label parts

block_own : (L : ℕ → Type 0) (b : BlockTree) → ((n : ℕ) → Listed (all_labels b) n → L n) → Each L (block_labels b)
block_own L (tree.a_block labels constants types variables routines body) h =
    each_listed L (labels_of labels) (λ n i. h n (listed_left (labels_of labels) (labels_in_routines routines) n i))

body_own : (L : ℕ → Type 0) (body : BodyTree) → ((n : ℕ) → Listed (all_labels_in body) n → L n) → Each L (labels_in_body body)
body_own L (tree.a_directive directive) h = tt
body_own L (tree.a_block_body b) h = block_own L b h

mutual
  block_listed : (y : Labelling) (b : BlockTree) → ((n : ℕ) → Listed (all_labels b) n → y.L n) → OfRoutines (Labelled y) b
  block_listed y (tree.a_block labels constants types variables routines body) h =
      part_listed y routines (λ n i. h n (listed_right (labels_of labels) (labels_in_routines routines) n i))

  part_listed : (y : Labelling) (rs : RoutineTrees) → ((n : ℕ) → Listed (labels_in_routines rs) n → y.L n) → OfEach (Labelled y) rs
  part_listed y tree.end_of_routines h = tt
  part_listed y (tree.more_routines r rest) h = (
    routine_listed y r (λ n i. h n (listed_left (labels_in_routine r) (labels_in_routines rest) n i)),
    part_listed y rest (λ n i. h n (listed_right (labels_in_routine r) (labels_in_routines rest) n i)),
  )

  routine_listed : (y : Labelling) (r : RoutineTree) → ((n : ℕ) → Listed (labels_in_routine r) n → y.L n) → OfRoutine (Labelled y) r
  routine_listed y (tree.a_routine heading semicolon body last_semicolon) h = (body_own y.L body h, body_listed y body h)

  body_listed : (y : Labelling) (body : BodyTree) → ((n : ℕ) → Listed (all_labels_in body) n → y.L n) → OfBody (Labelled y) body
  body_listed y (tree.a_directive directive) h = tt
  body_listed y (tree.a_block_body b) h = block_listed y b h

-- ---- the laws

-- what is known where the statements of a text begin
pub record Starts (l : Lexed) (t : ProgramTree) : Type 0 where
  pub begun : Begun (record { k = known_at_start l; bs = broken l t }) (program_step t (known_at_start l)).known
  pub programs : Programs l t (Listed (all_labels t.block)) (Listed (block_labels t.block))
  pub declared : (region v d : ℕ) → declared_in (program_step t (known_at_start l)).known.regions region v ≡ Some d
      → (label_at (known_at_start l) d ≡ v) × Listed (all_labels t.block) d

own_listed : (b : BlockTree) (n : ℕ) → Listed (block_labels b) n → Listed (all_labels b) n
own_listed (tree.a_block labels constants types variables routines body) n h = listed_left (labels_of labels) (labels_in_routines routines) n h

pub starts : (l : Lexed) (t : ProgramTree) → Starts l t
starts l t =
    let own = block_labels t.block in
    let all = all_labels t.block in
    let y = labelling l t (Listed all) (Listed own) in
    let p = program_walked l t (Listed all) (Listed own) (own_listed t.block) (each_listed (Listed own) own (λ n i. i)) (block_listed y t.block (λ n i. i)) in
    record {
      begun = record { tidy = p.walked.tidy; words = p.walked.valued.words };
      programs = p;
      declared = p.walked.valued.declared;
    }

pub starts_outward : (l : Lexed) (t : ProgramTree) → Starts l t
    → Outward (program_step t (known_at_start l)).known.frames (program_step t (known_at_start l)).value
starts_outward l t s = s.programs.walked.outward (program_step t (known_at_start l)).value refl

-- what the statements of a text give
text_gives : (l : Lexed) (t : ProgramTree) {T : List ℕ → Type 0}
    → Giver (record { k = known_at_start l; bs = broken l t }) (program_step t (known_at_start l)).known T
    → T (statement_labels t.block) × OfRoutines (λ r. T (statement_labels_in (routine_body r))) t.block
unfolding check_step ◌>>=◌
text_gives l t giver =
    let d = program_step t (known_at_start l) in
    let s = starts l t in
    (code_told s.begun giver d.value (starts_outward l t s) t.block).of d.known (record { same = same_in d.known })
    (λ b i. contained b (broken l t) (in_right b d.broken (code_block d.value t.block d.known).broken i))

pub text_label_law : TextsTellMarks
text_label_law l t = text_gives l t (seconds _ _ (starts l t).begun)

-- ---- the program's own block

-- In its frame and the one around labels are found that are declared in regions below a number.
found_low : (j : Known) (v n around : ℕ) (f : Frame) (m bound : ℕ) → slice_get j.frames n ≡ Some f → f.outer ≡ Some around
    → slice_get j.frames around ≡ Some outer_frame → f.region < bound
    → ((region d : ℕ) → region < bound → declared_in j.regions region v ≡ Some d → ⊥) → find_label_from m j (Some n) v ≡ None
found_low j v n around f zero bound own outer last below none = refl
found_low j v n around f (suc zero) bound own outer last below none =
    ap (λ o. or_else o (find_label_from 0 j (frame_at j n).outer v))
    (not_there j v (frame_at j n).region (λ d e. none (frame_at j n).region d (at_below j n f bound own below) e))
    ∙ none_left j v (frame_at j n).outer
  where
    none_left : (j : Known) (v : ℕ) (at : Option ℕ) → find_label_from 0 j at v ≡ None
    none_left j v None = refl
    none_left j v (Some f) = refl
found_low j v n around f (suc (suc m)) bound own outer last below none =
    let at : (frame_at j n).outer ≡ Some around = ap (λ (o : Option Frame). (unwrap_or o no_frame).outer) own ∙ outer in
    let at_last : frame_at j around ≡ outer_frame = ap (λ (o : Option Frame). unwrap_or o no_frame) last in
    ap (λ o. or_else o (find_label_from (suc m) j (frame_at j n).outer v))
    (not_there j v (frame_at j n).region (λ d e. none (frame_at j n).region d (at_below j n f bound own below) e))
    ∙ ap (λ at. find_label_from (suc m) j at v) at
    ∙ ap (λ (g : Frame). or_else (declared_in j.regions g.region v) (find_label_from m j g.outer v)) at_last
    ∙ ap (λ o. or_else o (find_label_from m j None v)) (not_there j v 0 (λ d e. none 0 d (omega (arith, below)) e))
    ∙ outermost_none j v m
  where
    outermost_none : (j : Known) (v m : ℕ) → find_label_from m j None v ≡ None
    outermost_none j v zero = refl
    outermost_none j v (suc m) = refl

pub main_told : (x : Text) {k : Known} (T : List ℕ → Type 0) (frame : ℕ) (b : BlockTree)
    → ((c : CompoundTree) → Gives (Coded k) (IsTold x) (compound frame c) (T (compound_labels c)))
    → Gives (Coded k) (IsTold x) (code_block frame b) (T (statement_labels b))
unfolding statement_part
main_told x {k = k} T frame (tree.a_block labels constants types variables routines body) gives =
    let span = span_of (tree.a_block labels constants types variables routines body) in
    gives_then (coded {k = k} (reach_all-touches frame (compound_body body) (everywhere (statements_node (compound_body body))))) (λ _.
    gives_then (coded (code_routines-touches routines)) (λ _. gives_then (coded (enter_block-touches span)) (λ _. gives_first _ (gives body))))

main_gives : (l : Lexed) (t : ProgramTree) → Starts l t → (c : CompoundTree)
    → let x : Text = record { k = known_at_start l; bs = broken l t } in
    Gives (Coded (program_step t (known_at_start l)).known) (IsTold x) (compound (program_step t (known_at_start l)).value c)
    (UndeclaredAreTold x.k x.bs (block_labels t.block) (compound_labels c))
main_gives l t s c = record {
  of = λ j i w before label after same off.
      let x : Text = record { k = known_at_start l; bs = broken l t } in
      let d = program_step t (known_at_start l) in
      let k = d.known in
      let p : Where = record { k = j; frame = d.value; t = label } in
      let valued = s.programs.walked.valued in
      let f = s.programs.frame in
      let spelled : label_at j label ≡ label_at x.k label
      = ap (λ (ws : List SpelledToken). label_at (record x.k { words = ws }) label) (i.same.words ∙ s.begun.words) in
      let none : (region m : ℕ) → region < length (defines_first l t).regions → declared_in j.regions region (label_at j label) ≡ Some m → ⊥ =
      λ region m less e.
      let here = sym (ap (λ (rs : List RegionRows). declared_in rs region (label_at j label)) i.same.regions) ∙ e in
      let is = valued.declared region (label_at j label) m here in
      let own = valued.below region (label_at j label) m less here in
      let never : true ≡ false = sym (listed_has x.k (block_labels t.block) m label own (is.0 ∙ spelled)) ∙ off in cc in
      let fs = (defines_first l t).frames in
      let frames : j.frames ≡ fs ++ (valued.frames.more ++ i.same.frames.more)
      = i.same.frames.is ∙ ap (λ gs. gs ++ i.same.frames.more) valued.frames.is ∙ append_assoc fs valued.frames.more i.same.frames.more in
      let there : slice_get j.frames d.value ≡ Some f
      = ap (λ (gs : List Frame). slice_get gs d.value) frames ∙ got_still fs (valued.frames.more ++ i.same.frames.more) d.value f s.programs.stands.there in
      let last : slice_get j.frames s.programs.around ≡ Some outer_frame
      = ap (λ (gs : List Frame). slice_get gs s.programs.around) frames
      ∙ got_still fs (valued.frames.more ++ i.same.frames.more) s.programs.around outer_frame s.programs.last in
      let wrong = subst (Wrong p true) (sym same) (wrong_at p true before after refl) in
      w (late_at 15 label) (told_from x k s.begun d.value (starts_outward l t s) c j i label true (λ e. unfound j d.value (label_at j label)
      (found_low j (label_at j label) d.value s.programs.around f (length j.frames) (length (defines_first l t).regions) there s.programs.outer last
      s.programs.stands.below none)) wrong);
}

pub text_declared : (l : Lexed) (t : ProgramTree) → let k = known_at_start l in
    UndeclaredAreTold k (broken l t) (block_labels t.block) (statement_labels t.block)
    × OfRoutines (λ r. UndeclaredAreTold k (broken l t) (all_labels t.block) (statement_labels_in (routine_body r))) t.block
unfolding check_step ◌>>=◌
text_declared l t =
    let x : Text = record { k = known_at_start l; bs = broken l t } in
    let d = program_step t (known_at_start l) in
    let s = starts l t in
    let main = main_told x {k = d.known} (UndeclaredAreTold x.k x.bs (block_labels t.block)) d.value t.block (main_gives l t s) in (
      main.of d.known (record { same = same_in d.known })
          (λ b i. contained b (broken l t) (in_right b d.broken (code_block d.value t.block d.known).broken i)),
      (text_gives l t (undeclared _ _ (all_labels t.block) s.begun s.declared)).1,
    )
