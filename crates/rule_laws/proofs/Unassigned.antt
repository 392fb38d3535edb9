-- Statements assign to no function that none of their names alone on the left can stand for.
use Rattle.std.proofs.Common.{if◌then◌else◌, ◌++◌, ◌<◌, ◌||◌, ◌∙◌, ◌∷◌, ◌≡◌, ◌≤◌, ◌⊎◌, [], ℕ, Bool, List, None, Option, Some, ap, arith, false, inl, inr}
use Rattle.std.proofs.Common.{length, length-set, map, nat_eq, nat_le, refl, set, slice_get, subst, suc, sym, true, zero}
use Rattle.std.proofs.lemmas.{Bool.leb-true, Bool.Decides.nat_tests, List.length-append, Option.none-some, Option.same_Some}
use Rattle.grammar.specs.Nodes.{row}
use Rattle.pas_tree.specs.{BlockTrees.BlockTree, BlockTrees.RoutineTree, BlockTrees.routine_heading, ExpressionTrees.AccessTree, Operators.direction_node}
use Rattle.pas_tree.specs.{StatementTrees.StatementTree, StatementTrees.StatementTrees, StatementTrees.StatementsTree, declared.statements.Label.Label}
use Rattle.pas_tree.specs.StatementTrees.{AssignmentTree, BranchTree, BranchTrees, CaseTree, CompoundTree, ElseTree, IfTree, PlainTree, RepeatTree}
use Rattle.pas_tree.specs.StatementTrees as tree
use Rattle.pas_tree.specs.TreeNodes.{access_node, call_node, constants_node, expression_node, next_access_node, statements_node}
use Rattle.core_program.specs.{ProgramRows.ProgramRows, ProgramRows.routine_at, declared.program.Routine.Routine as RoutineRow}
use Rattle.core_program.specs.declared.rows.{AccessRow.AccessRow, NameRow.NameRow, PartRow.PartRow, Row.Row, TypeRow.TypeRow}
use Rattle.check_steps.specs.{Names.usable, Regions.RegionRows, Regions.defined_in, Regions.or_else, Steps.◌>>=◌, Steps.Step, Steps.change, Steps.look}
use Rattle.check_steps.specs.Known.{Known, find, find_from, found_with, frame_at, name_at, row_at, with_routine, with_row}
use Rattle.check_steps.specs.declared.{regions.Definition.Definition, regions.Found.Found, words.SpelledToken.SpelledToken}
use Rattle.denoter_checker.specs.{Formals.is_function, RoutineParts.routine_name, declared.variants.Choosing.Choosing}
use Rattle.expression_checker.specs.NamesAlone.{is_name}
use Rattle.statement_checker.specs.{Parts.assigned_to, Parts.assignment, Parts.target_as, Sequences.line_of, declared.assignments.FunctionResult.FunctionResult}
use Rattle.statement_checker.specs.{declared.assignments.Target.Target, declared.sequences.Branching.Branching, declared.sequences.Element.Element}
use Rattle.statement_checker.specs.Assignments.{assigned_in, is_inside, result_assigned, result_target, target_at, target_of, with_value}
use Rattle.statement_checker.specs.Statements.{branch_step, branching, case_statement, compound, element, else_statement, if_statement, label_token}
use Rattle.statement_checker.specs.Statements.{labelled_by, more_branches, more_statements, plain, repeat_statement, sequence, statement_step}
use Rattle.rule_laws.proofs.{DenoterVariants.choices-touches, ExpressionExpressions.expression-touches, LabelTold.Anywhere, LabelTold.anywhere}
use Rattle.rule_laws.proofs.{LabelTold.everywhere, Lasting.Declaring, Lasting.Lasting, Lasting.is_quiet, Listed.Listed, Listed.listed_left, Listed.listed_right}
use Rattle.rule_laws.proofs.{ResultScopes.usable_found, ResultTargets.row_result, Standing.got_still, StatementAssignments.assigned-touches}
use Rattle.rule_laws.proofs.{StatementAssignments.blockless_target-touches, StatementChoices.case_row-touches, StatementLabels.reach_label-touches}
use Rattle.rule_laws.proofs.{StatementParts.selected-touches, StatementParts.target_access-touches, StatementRecords.put_with-touches}
use Rattle.rule_laws.proofs.{StatementStatements.next_records-touches, TextHeadings.Sound, TextLabels.said_routine, Timely.Timely}
use Rattle.rule_laws.proofs.Faces.{Shown, loose, row_either, said, value_shows}
use Rattle.rule_laws.proofs.Keeping.{Keeps, ask-keeps, bind-keeps, give-keeps, look-keeps, when-keeps}
use Rattle.rule_laws.proofs.StatementLabels.{jump-touches, labelled-touches, leave-touches, leave_all-touches, mark-touches, reach_all-touches}
use Rattle.rule_laws.proofs.StatementParts.{call_statement-touches, condition_row-touches, first_record-touches, for_begins-touches, for_ends-touches}
use Rattle.rule_laws.proofs.StatementSequences.{add_element-touches, compound_row-touches, empty-touches, if_else_row-touches, if_row-touches}
use Rattle.rule_laws.proofs.StatementSequences.{link_element-touches, repeat_row-touches, while_row-touches}
use Rattle.rule_laws.proofs.Touches.{Same, Touches, changed-touches, put-touches, put_given, same_then}
use Rattle.rule_laws.specs.{LeftNames.more_lefts, LeftNames.name_alone, LeftNames.repeat_lefts, LeftNames.sequence_lefts, TextLaws.has_name}
use Rattle.rule_laws.specs.LeftNames.{branch_lefts, branches_lefts, case_lefts, compound_lefts, else_lefts, if_lefts, left_name, left_names, lefts_inside}

-- ---- what the rows of procedures and functions say, wherever a text's declarations are looked at

-- Nothing is assigned to a routine so far, which is there and has its name at this token.
pub record Heading (x number : ℕ) (assigned : Bool) (p : ProgramRows) : Type 0 where
  pub fresh : assigned ≡ false
  pub few : number < length p.routines
  pub named : (q : RoutineRow) → routine_at p number ≡ Some q → q.name ≡ x

pub record Headed (j : Known) : Type 0 where
  pub at : (x : ℕ) (assigned : Bool) (number region : ℕ) → row_at j x ≡ Row.Name (NameRow.Routine assigned number region)
      → Heading x number assigned j.program

put_headed : (j : Known) (m : ℕ) (r : Row)
    → ((assigned : Bool) (number region : ℕ) → r ≡ Row.Name (NameRow.Routine assigned number region) → Heading m number assigned j.program)
    → Headed j → Headed (with_row j m r)
put_headed j m r new s = record {
  at = λ x assigned number region e. elim (row_either j m x r) [
    | inl old ↦ (let h = s.at x assigned number region (sym old ∙ e) in record { fresh = h.fresh; few = h.few; named = h.named })
    | inr own ↦ (
        let h = new assigned number region (sym own.1 ∙ e) in
        record { fresh = h.fresh; few = h.few; named = λ q there. h.named q there ∙ sym own.0 })
  ];
}

no_head : (r : Row) (assigned : Bool) (n region : ℕ) → is_quiet r ≡ true → r ≡ Row.Name (NameRow.Routine assigned n region) → ⊥
no_head r assigned n region quiet e = let never : false ≡ true = sym (ap is_quiet e) ∙ quiet in cc

no_part : {r : PartRow} {n : NameRow} → Row.Part r ≡ Row.Name n → ⊥
no_part e = cc

no_type : {t : TypeRow} {n : NameRow} → Row.Type t ≡ Row.Name n → ⊥
no_type e = cc

no_label : {marked assigned : Bool} {v l ways number region : ℕ}
    → Row.Name (NameRow.Label marked v l ways) ≡ Row.Name (NameRow.Routine assigned number region) → ⊥
no_label e = cc

own_number : {a b : Bool} {m n x y : ℕ} → Row.Name (NameRow.Routine a m x) ≡ Row.Name (NameRow.Routine b n y) → m ≡ n
own_number e = cc

own_assigned : {b : Bool} {m n x y : ℕ} → Row.Name (NameRow.Routine false m x) ≡ Row.Name (NameRow.Routine b n y) → b ≡ false
own_assigned e = cc

got_set : (xs : List RoutineRow) (m n : ℕ) (r q : RoutineRow) → slice_get (set xs m r) n ≡ Some q → (slice_get xs n ≡ Some q) ⊎ ((n ≡ m) × (r ≡ q))
got_set [] m n r q e = inl e
got_set (x ∷ xs) zero zero r q e = inr (refl, same_Some r q e)
got_set (x ∷ xs) zero (suc n) r q e = inl e
got_set (x ∷ xs) (suc m) zero r q e = inl e
got_set (x ∷ xs) (suc m) (suc n) r q e = elim (got_set xs m n r q e) [
  | inl old ↦ inl old
  | inr new ↦ inr (ap suc new.0, new.1)
]

record Got (xs : List RoutineRow) (n : ℕ) : Type 0 where
  routine : RoutineRow
  is : slice_get xs n ≡ Some routine

got_there : (xs : List RoutineRow) (n : ℕ) → n < length xs → Got xs n
got_there [] n below = absurd (omega (arith, below))
got_there (y ∷ ys) zero below = record { routine = y; is = refl }
got_there (y ∷ ys) (suc n) below = let g = got_there ys n (omega (arith, below)) in record { routine = g.routine; is = g.is }

body_headed : (j : Known) (n : ℕ) (r : RoutineRow) → ((q : RoutineRow) → routine_at j.program n ≡ Some q → r.name ≡ q.name) → Headed j
    → Headed (with_routine j n r)
body_headed j n r same s = record {
  at = λ x assigned number region e.
      let h = s.at x assigned number region e in
      record {
        fresh = h.fresh;
        few = (let few = h.few in let many = length-set j.program.routines n r in omega (arith, few, many));
        named = λ q there. elim (got_set j.program.routines n number r q there) [
          | inl old ↦ h.named q old
          | inr new ↦ (
              let g = got_there j.program.routines number h.few in
              ap (λ (y : RoutineRow). y.name) (sym new.1) ∙ same g.routine (ap (slice_get j.program.routines) (sym new.0) ∙ g.is)
              ∙ h.named g.routine g.is)
        ];
      };
}

more_headed : (j : Known) (r : RoutineRow) → Headed j → Headed (record j { program = record j.program { routines = j.program.routines ++ r ∷ [] } })
more_headed j r s = record {
  at = λ x assigned number region e.
      let h = s.at x assigned number region e in
      let g = got_there j.program.routines number h.few in
      record {
        fresh = h.fresh;
        few = (let few = h.few in let many = length-append j.program.routines (r ∷ []) in omega (arith, few, many));
        named = λ q there. h.named q (g.is ∙ ap Some (same_Some g.routine q
            (sym (got_still j.program.routines (r ∷ []) number g.routine g.is) ∙ there)));
      };
}

headed_lasts : {G : RoutineTree → Type 0} → Lasting G Headed
headed_lasts = record {
  puts = λ j m r quiet s. put_headed j m r (λ assigned number region e. absurd (no_head r assigned number region quiet e)) s;
  stays = λ j m s. put_headed j m (row_at j m) (λ assigned number region e. s.at m assigned number region e) s;
  bodies = λ j n r same s. body_headed j n r same s;
  routines = λ j r s. more_headed j r s;
  frames = λ j f s. record { at = s.at };
  regions = λ j token f s. record { at = s.at };
  defines = λ j region d at s. record { at = s.at };
  requires = λ j name d behind s. record { at = s.at };
  chooses = λ j list v s. record { at = s.at };
  records = λ j word packed region cells variants fresh s. put_headed j word (Row.Type (TypeRow.Record packed region cells variants))
      (λ assigned number at e. absurd (no_type e)) s;
  waits = λ j r g none s. put_headed j (routine_name r) (Row.Part (PartRow.Forward (is_function (routine_heading r)) None))
      (λ assigned number region e. absurd (no_part e)) s;
  completes = λ j region first position r g x s.
      let row = Row.Part (PartRow.Forward (is_function (routine_heading r)) (Some position)) in
      put_headed (with_row j first row) (routine_name r) (Row.Part (PartRow.Completing first)) (λ assigned number at e. absurd (no_part e))
      (put_headed j first row (λ assigned number at e. absurd (no_part e)) s);
}

pub headed_all : {G : RoutineTree → Type 0} → Declaring G Headed
headed_all = record {
  kept = headed_lasts;
  ends = λ j region d s. record { at = s.at };
  declares = λ j region value token s. record { at = s.at };
  labels = λ j token value level s. put_headed j token (Row.Name (NameRow.Label false value level 0)) (λ assigned number region e. absurd (no_label e)) s;
  heads = λ j name number region named few s. put_headed j name (Row.Name (NameRow.Routine false number region)) (λ assigned n at e. record {
    fresh = own_assigned e;
    few = subst (λ m. m < length j.program.routines) (own_number e) few;
    named = λ q there. named q (ap (slice_get j.program.routines) (own_number e) ∙ there);
  }) s;
}

-- ---- functions that stay without a value

-- all but which functions are assigned may change
abbrev giving : Shown
giving = record { frames = false; marks = false; results = true }

-- The text and its tables where the statements begin, what may stand alone on the left, and at which tokens stand
-- functions to which nothing is assigned.
pub record Lefts : Type 1 where
  pub k : Known
  pub t : BlockTree
  pub c : Known
  pub lefts : ℕ → Type 0
  pub free : ℕ → Type 0

-- A token that has another name, or stands before this one, can't stand for what is defined here.
abbrev pub IsApart : Known → ℕ → ℕ → Type 0
IsApart k n x = name_at k n ≡ name_at k x → n < x

pub record Ready (y : Lefts) : Type 0 where
  pub sound : Sound y.k y.t y.c
  pub headed : Headed y.c
  pub timely : Timely y.k y.c
  pub there : (x : ℕ) → y.free x → x < length y.k.words
  pub apart : (n x : ℕ) → y.lefts n → y.free x → IsApart y.k n x

-- Nothing is assigned so far to these functions.
pub record Bare (y : Lefts) (j : Known) : Type 0 where
  pub same : Same Anywhere loose y.c j
  pub none : (x : ℕ) → y.free x → assigned_in (row_at j x) ≡ false

-- tables that are the same but for any row
loosen : {strict : Shown} (k j : Known) → Same Anywhere strict k j → Same Anywhere loose k j
loosen k j s = record {
  words = s.words;
  texts = s.texts;
  routines = s.routines;
  regions = s.regions;
  many = s.many;
  frames = s.frames;
  still = λ e. absurd (let never : false ≡ true = e in cc);
  rows = λ n h. absurd (h.none (anywhere n));
  sayings = s.sayings;
  chosen = s.chosen;
  spent = s.spent;
  given = λ e n x. absurd (let never : false ≡ true = e in cc);
  grows = s.grows;
}

pub bare_of : (y : Lefts) {A : Type 0} {m : Step A} → Touches Anywhere giving m → Keeps (Bare y) m
bare_of y {m = m} touches = record {
  of = λ j b. record {
    same = same_then y.c j (m j).known b.same (loosen j (m j).known (touches.same j));
    none = λ x free. (touches.same j).given refl x (b.none x free);
  };
}

-- ---- the left of an assignment

result_bare : (y : Lefts) (name : ℕ) → ((x : ℕ) → y.free x → x ≡ name → ⊥) → Keeps (Bare y) (result_assigned name)
unfolding result_assigned look ◌>>=◌ change
result_bare y name apart = record {
  of = λ j b. record {
    same = same_then y.c j (with_row j name (with_value (row_at j name))) b.same
        ((changed-touches {Q = Anywhere} {strict = loose} name with_value (value_shows loose refl)).same j);
    none = λ x free. put_given j name x (with_value (row_at j name)) (λ at e. absurd (apart x free at)) (b.none x free);
  };
}

target_bare : (y : Lefts) (frame name : ℕ) (r : FunctionResult) → ((x : ℕ) → y.free x → x ≡ r.function → ⊥)
    → Keeps (Bare y) (result_target frame name r)
unfolding result_target
target_bare y frame name r apart = bind-keeps (look-keeps (λ k. is_inside k frame r.function)) (λ fine. bind-keeps (ask-keeps _ name fine) (λ _.
    bind-keeps (when-keeps fine (result_bare y r.function apart)) (λ _.
    bind-keeps (bare_of y (put-touches name (Row.Access (AccessRow.Variable r.place r.levels r.of)) (anywhere name) refl)) (λ _. give-keeps _))))

-- a definition that is found by a name
record Defined (k : Known) (v : ℕ) (d : Definition) : Type 0 where
  region : ℕ
  is : defined_in k.regions region v ≡ Some d

own_definition : (f : ℕ) (d : Definition) (o : Found) → Some (record { definition = d; frame = f }) ≡ Some o → d ≡ o.definition
own_definition f d o e =
    let one : Found = record { definition = d; frame = f } in
    let same : one ≡ o = same_Some one o e in
    ap (λ (x : Found). x.definition) same

defined_or : (k : Known) (frame region v : ℕ) (d : Option Definition) (o : Option Found) (f : Found) → defined_in k.regions region v ≡ d
    → (o ≡ Some f → Defined k v f.definition) → or_else (found_with frame d) o ≡ Some f → Defined k v f.definition
defined_or k frame region v None o f at later e = later e
defined_or k frame region v (Some d) o f at later e = record {
  region = region;
  is = at ∙ ap (λ (x : Definition). Some x) (own_definition frame d f e);
}

defined_by : (k : Known) (n : ℕ) (at : Option ℕ) (v : ℕ) (f : Found) → find_from n k at v ≡ Some f → Defined k v f.definition
defined_by k zero None v f e = absurd (none-some f e)
defined_by k (suc n) None v f e = absurd (none-some f e)
defined_by k zero (Some frame) v f e = absurd (none-some f e)
defined_by k (suc n) (Some frame) v f e =
    defined_or k frame (frame_at k frame).region v (defined_in k.regions (frame_at k frame).region v) (find_from n k (frame_at k frame).outer v) f refl
    (λ same. defined_by k n (frame_at k frame).outer v f same) e

-- it may be used there
usable_end : (at : ℕ) (o : Option Found) (f : Found) → usable at o ≡ Some f → f.definition.end ≤ at
usable_end at None f e = absurd (none-some f e)
usable_end at (Some g) f e = by (nat_le g.definition.end at) refl e
  where
    by : (ok : Bool) → nat_le g.definition.end at ≡ ok → (if ok then Some g else None) ≡ Some f → f.definition.end ≤ at
    by true fits same = subst (λ (x : Found). x.definition.end ≤ at) (same_Some g f same) (leb-true g.definition.end at fits)
    by false fits same = absurd (none-some f same)

same_number : {a b : ℕ} → a ≡ b → nat_eq a b ≡ true
same_number h = grind (arith, nat_tests)

pub named_has : (k : Known) (xs : List ℕ) (n x : ℕ) → Listed xs n → name_at k n ≡ name_at k x → has_name k xs x ≡ true
named_has k [] n x h same = absurd h
named_has k (a ∷ xs) n x (inl e) same = first (nat_eq (name_at k x) (name_at k a)) (has_name k xs x) (same_number (sym same ∙ ap (name_at k) (sym e)))
  where
    first : (b c : Bool) → b ≡ true → (b || c) ≡ true
    first true c e = refl
    first false c e = absurd (let never : false ≡ true = e in cc)
named_has k (a ∷ xs) n x (inr h) same = later (nat_eq (name_at k x) (name_at k a)) (has_name k xs x) (named_has k xs n x h same)
  where
    later : (b c : Bool) → c ≡ true → (b || c) ≡ true
    later true c e = refl
    later false c e = e

-- What a name of these stands for on the left is none of these functions.
apart_by : (y : Lefts) → Ready y → (j : Known) → Bare y j → (frame name : ℕ) (r : FunctionResult) → y.lefts name → (o : Option Found)
    → usable name (find j frame (name_at j name)) ≡ o → target_of j frame o ≡ Target.Result r → (x : ℕ) → y.free x → x ≡ r.function → ⊥
apart_by y ready j b frame name r listed None found e x free same = absurd (let never : Target.Access ≡ Target.Result r = e in cc)
apart_by y ready j b frame name r listed (Some f) found e x free same =
    let token = f.definition.token in
    let o = row_result j frame (row_at j token) r e in
    let c = y.c in
    elim (b.same.sayings token) [
      | inl nothing ↦ (let never : Row.Name (NameRow.Routine false o.number o.region) ≡ Row.Nothing = sym (ap said o.is) ∙ nothing.1 in cc)
      | inr stays ↦
          let row = said_routine (row_at c token) o.number o.region (sym stays ∙ ap said o.is) in
          let h = ready.headed.at token row.assigned o.number o.region row.is in
          let there : routine_at c.program o.number ≡ Some o.routine
          = ap (λ (rs : List RoutineRow). slice_get rs o.number) (sym b.same.routines) ∙ o.there in
          let at : x ≡ token = same ∙ o.same ∙ h.named o.routine there in
          let d = defined_by j (length j.frames) (Some frame) (name_at j name) f (usable_found name (find j frame (name_at j name)) f found) in
          let own : defined_in c.regions d.region (name_at j name) ≡ Some f.definition
          = ap (λ (rs : List RegionRows). defined_in rs d.region (name_at j name)) (sym b.same.regions) ∙ d.is in
          let words = ap (λ (ws : List SpelledToken). name_at (record y.k { words = ws }) name) (b.same.words ∙ ready.sound.words) in
          let below = ready.there x free in
          elim (ready.sound.own d.region (name_at j name) f.definition own) [
            | inl spelled ↦
                let before = ready.apart name x listed free (sym words ∙ sym spelled ∙ ap (name_at y.k) (sym at)) in
                elim (ready.timely.ahead d.region (name_at j name) f.definition own) [
                  | inl ahead ↦
                      let late = usable_end name (find j frame (name_at j name)) f found in
                      omega (arith, ahead, late, before, at)
                  | inr behind ↦ omega (arith, behind, below, at)
                ]
            | inr behind ↦ omega (arith, behind, below, at)
          ]
    ]

left_apart : (y : Lefts) → Ready y → (j : Known) → Bare y j → (frame name : ℕ) (alone : Bool) (r : FunctionResult)
    → ((n : ℕ) → Listed (name_alone alone name) n → y.lefts n) → target_at j frame name alone ≡ Target.Result r → (x : ℕ) → y.free x
    → x ≡ r.function → ⊥
left_apart y ready j b frame name true r listed e x free same =
    apart_by y ready j b frame name r (listed name (inl refl)) (usable name (find j frame (name_at j name))) refl e x free same
left_apart y ready j b frame name false r listed e x free same = absurd (let never : Target.Access ≡ Target.Result r = e in cc)

assigned_to_bare : (y : Lefts) → Ready y → (frame : ℕ) (a : AccessTree)
    → ((n : ℕ) → Listed (name_alone (is_name a.selectors) a.name) n → y.lefts n) → Keeps (Bare y) (assigned_to frame a)
unfolding assigned_to look ◌>>=◌
assigned_to_bare y ready frame a listed = record { of = λ j b. by j b (target_at j frame a.name (is_name a.selectors)) refl }
  where
    by : (j : Known) → Bare y j → (t : Target) → target_at j frame a.name (is_name a.selectors) ≡ t → Bare y (target_as frame a t j).known
    by j b Target.Access e = (bare_of y (target_access-touches frame a (everywhere (access_node a)))).of j b
    by j b (Target.Result r) e = (target_bare y frame a.name r (left_apart y ready j b frame a.name (is_name a.selectors) r listed e)).of j b
    by j b Target.Blockless e = (bare_of y (blockless_target-touches a.name (anywhere a.name))).of j b

assignment_bare : (y : Lefts) → Ready y → (frame : ℕ) (label : Option ℕ) (a : AssignmentTree) → ((n : ℕ) → Listed (left_name a) n → y.lefts n)
    → Keeps (Bare y) (assignment frame label a)
unfolding assignment
assignment_bare y ready frame label a listed = bind-keeps (assigned_to_bare y ready frame a.target listed) (λ to.
    bind-keeps (bare_of y (expression-touches frame a.value (everywhere (expression_node a.value)))) (λ v.
    bind-keeps (look-keeps (λ k. line_of k label a.target.name)) (λ line. bare_of y (assigned-touches line a.becomes to v (anywhere a.becomes)))))

-- ---- statements

-- these names may stand alone on the left
abbrev pub Among : Lefts → List ℕ → Type 0
Among y xs = (n : ℕ) → Listed xs n → y.lefts n

pub among_left : (y : Lefts) (xs ys : List ℕ) → Among y (xs ++ ys) → Among y xs
among_left y xs ys h n i = h n (listed_left xs ys n i)

pub among_right : (y : Lefts) (xs ys : List ℕ) → Among y (xs ++ ys) → Among y ys
among_right y xs ys h n i = h n (listed_right xs ys n i)

labelled_bare : (y : Lefts) (f : ℕ) (label : Option Label) (m : Step ℕ) → Keeps (Bare y) m → Keeps (Bare y) (labelled_by f label m)
labelled_bare y f None m h = h
labelled_bare y f (Some l) m h = bind-keeps (bare_of y (mark-touches refl f l.number (anywhere l.number))) (λ _.
    bind-keeps (bare_of y (reach_label-touches f l.number)) (λ _. bind-keeps h (λ n.
    bind-keeps (bare_of y (leave-touches f l.number)) (λ _. bare_of y (labelled-touches l.number n (anywhere l.number))))))

mutual
  statement_bare : (y : Lefts) → Ready y → (f : ℕ) (s : StatementTree) → Among y (left_names s) → Keeps (Bare y) (statement_step f s)
  statement_bare y ready f (tree.a_statement label p) all =
      labelled_bare y f label (plain f (label_token label) p) (plain_bare y ready f (label_token label) p all)

  plain_bare : (y : Lefts) → Ready y → (f : ℕ) (label : Option ℕ) (s : PlainTree) → Among y (lefts_inside s) → Keeps (Bare y) (plain f label s)
  plain_bare y ready f label tree.an_empty all = bare_of y empty-touches
  plain_bare y ready f label (tree.an_assignment a) all = assignment_bare y ready f label a all
  plain_bare y ready f label (tree.a_procedure_call name actuals) all =
      bare_of y (call_statement-touches f label name actuals (anywhere name) (everywhere (call_node actuals)))
  plain_bare y ready f label (tree.a_goto word target) all = bare_of y (jump-touches f label word target (anywhere word) (anywhere target))
  plain_bare y ready f label (tree.a_compound c) all = compound_bare y ready f c all
  plain_bare y ready f label (tree.an_if i) all = if_bare y ready f label i all
  plain_bare y ready f label (tree.a_case c) all = case_bare y ready f label c all
  plain_bare y ready f label (tree.a_repeat r) all = repeat_bare y ready f label r all
  plain_bare y ready f label (tree.a_while word condition do_word s) all =
      bind-keeps (bare_of y (condition_row-touches f condition (everywhere (expression_node condition)))) (λ c.
      bind-keeps (statement_bare y ready f s all) (λ body. bare_of y (while_row-touches label word c body (anywhere word))))
  plain_bare y ready f label (tree.a_for word name becomes initial direction last do_word s) all =
      bind-keeps (bare_of y (for_begins-touches f name initial last (anywhere name) (everywhere (expression_node initial))
      (everywhere (expression_node last)))) (λ b.
      bind-keeps (statement_bare y ready f s all)
      (λ body. bare_of y (for_ends-touches label word direction b body (anywhere word) (everywhere (direction_node direction)))))
  plain_bare y ready f label (tree.a_with word first others do_word s) all =
      bind-keeps (bare_of y (first_record-touches refl f word first (everywhere (access_node first)))) (λ one.
      bind-keeps (bare_of y (next_records-touches refl one others (anywhere one.last.slot) (everywhere (row (map next_access_node others))))) (λ opened.
      bind-keeps (bare_of y (link_element-touches opened.last 0 (anywhere opened.last.slot))) (λ _.
      bind-keeps (statement_bare y ready opened.frame s all) (λ body. bare_of y (put_with-touches label word do_word body (anywhere do_word))))))

  pub compound_bare : (y : Lefts) → Ready y → (f : ℕ) (c : CompoundTree) → Among y (compound_lefts c) → Keeps (Bare y) (compound f c)
  compound_bare y ready f (tree.compound_statement word body end) all =
      bind-keeps (bare_of y (reach_all-touches f body (everywhere (statements_node body)))) (λ _.
      bind-keeps (sequence_bare y ready f word body all) (λ last.
      bind-keeps (bare_of y (leave_all-touches f body (everywhere (statements_node body))))
      (λ _. bare_of y (compound_row-touches word last end (anywhere last.slot) (anywhere end)))))

  sequence_bare : (y : Lefts) → Ready y → (f list : ℕ) (s : StatementsTree) → Among y (sequence_lefts s) → Keeps (Bare y) (sequence f list s)
  sequence_bare y ready f list (tree.statement_sequence first others) all =
      bind-keeps (statement_bare y ready f first (among_left y (left_names first) (more_lefts others) all))
      (λ n. more_bare y ready f (element list n) others (among_right y (left_names first) (more_lefts others) all))

  more_bare : (y : Lefts) → Ready y → (f : ℕ) (last : Element) (r : StatementTrees) → Among y (more_lefts r) → Keeps (Bare y) (more_statements f last r)
  more_bare y ready f last tree.end_of_statements all = give-keeps last
  more_bare y ready f last (tree.more_statements semicolon s rest) all =
      bind-keeps (bind-keeps (statement_bare y ready f s (among_left y (left_names s) (more_lefts rest) all))
      (λ n. bare_of y (add_element-touches last semicolon n (anywhere last.slot))))
      (λ next. more_bare y ready f next rest (among_right y (left_names s) (more_lefts rest) all))

  if_bare : (y : Lefts) → Ready y → (f : ℕ) (label : Option ℕ) (i : IfTree) → Among y (if_lefts i) → Keeps (Bare y) (if_statement f label i)
  if_bare y ready f label (tree.if_statement word condition then_word s alternative) all =
      bind-keeps (bare_of y (condition_row-touches f condition (everywhere (expression_node condition)))) (λ c.
      bind-keeps (statement_bare y ready f s (among_left y (left_names s) (else_lefts alternative) all))
      (λ n. else_bare y ready f (branching label word c n) alternative (among_right y (left_names s) (else_lefts alternative) all)))

  else_bare : (y : Lefts) → Ready y → (f : ℕ) (b : Branching) (e : ElseTree) → Among y (else_lefts e) → Keeps (Bare y) (else_statement f b e)
  else_bare y ready f b tree.without_else all = bare_of y (if_row-touches b (anywhere b.word))
  else_bare y ready f b (tree.an_else else_word s) all =
      bind-keeps (statement_bare y ready f s all) (λ n. bare_of y (if_else_row-touches b n (anywhere b.word)))

  case_bare : (y : Lefts) → Ready y → (f : ℕ) (label : Option ℕ) (c : CaseTree) → Among y (case_lefts c) → Keeps (Bare y) (case_statement f label c)
  case_bare y ready f label (tree.case_statement word selector of_word first others semicolon end) all =
      bind-keeps (bare_of y (selected-touches f of_word selector (everywhere (expression_node selector)))) (λ x.
      bind-keeps (branch_bare y ready f x.choosing of_word of_word first (among_left y (branch_lefts first) (branches_lefts others) all)) (λ last.
      bind-keeps (branches_bare y ready f x.choosing last others (among_right y (branch_lefts first) (branches_lefts others) all))
      (λ _. bare_of y (case_row-touches label word x.row of_word (anywhere word)))))

  branch_bare : (y : Lefts) → Ready y → (f : ℕ) (c : Choosing) (last slot : ℕ) (b : BranchTree) → Among y (branch_lefts b)
      → Keeps (Bare y) (branch_step f c last slot b)
  branch_bare y ready f c last slot (tree.a_branch constants colon s) all = bind-keeps (statement_bare y ready f s all)
      (λ n. bare_of y (choices-touches c n last slot constants (anywhere c.list) (anywhere slot) (everywhere (constants_node constants))))

  branches_bare : (y : Lefts) → Ready y → (f : ℕ) (c : Choosing) (last : ℕ) (r : BranchTrees) → Among y (branches_lefts r)
      → Keeps (Bare y) (more_branches f c last r)
  branches_bare y ready f c last tree.end_of_branches all = give-keeps last
  branches_bare y ready f c last (tree.more_branches semicolon b rest) all =
      bind-keeps (branch_bare y ready f c last semicolon b (among_left y (branch_lefts b) (branches_lefts rest) all))
      (λ next. branches_bare y ready f c next rest (among_right y (branch_lefts b) (branches_lefts rest) all))

  repeat_bare : (y : Lefts) → Ready y → (f : ℕ) (label : Option ℕ) (r : RepeatTree) → Among y (repeat_lefts r) → Keeps (Bare y) (repeat_statement f label r)
  repeat_bare y ready f label (tree.repeat_statement word body until_word condition) all =
      bind-keeps (bare_of y (reach_all-touches f body (everywhere (statements_node body)))) (λ _.
      bind-keeps (sequence_bare y ready f word body all) (λ last.
      bind-keeps (bare_of y (leave_all-touches f body (everywhere (statements_node body)))) (λ _.
      bind-keeps (bare_of y (link_element-touches last 0 (anywhere last.slot))) (λ _.
      bind-keeps (bare_of y (condition_row-touches f condition (everywhere (expression_node condition))))
      (λ c. bare_of y (repeat_row-touches label word until_word c (anywhere until_word)))))))
