-- Which labels in front of the statements of a text break no rule.
use Rattle.std.proofs.Common.{if◌then◌else◌, ◌&&◌, ◌++◌, ◌-◌, ◌<◌, ◌^◌, ◌||◌, ◌∙◌, ◌∷◌, ◌≡◌, ◌⊎◌, [], ℕ, All, Bool, List, Option, Some, ap, arith, false, inl}
use Rattle.std.proofs.Common.{inr, length, nat_eq, refl, slice_get, subst, suc, sym, true, unwrap_or}
use Rattle.std.proofs.lemmas.{Bool.eq-eqb, Bool.eqb-true, List.Elements.All-cons, List.Elements.All-nil, Option.none-some}
use Rattle.pas_lexer.specs.Lexed.{Lexed}
use Rattle.grammar.specs.Nodes.{Leaf, Node, Nothing, Pair, spell}
use Rattle.pas_tree.specs.{HeadingPlaces.heading_name, StatementTrees.CompoundTree, StatementTrees.compound_body}
use Rattle.pas_tree.specs.BlockTrees.{BlockTree, BodyTree, ProgramTree, RoutineTree, RoutineTrees, routine_body}
use Rattle.pas_tree.specs.BlockTrees as tree
use Rattle.pas_tree.specs.StatementTrees as statements
use Rattle.pas_tree.specs.TreeNodes.{block_node, body_node, compound_node, label_part_node, routine_node, routines_node, statements_node, tree_node}
use Rattle.pas_parser.specs.Formed.{items_of}
use Rattle.check_steps.specs.{Breaks.number, Regions.RegionRows, Regions.declared_in, Regions.region_at, Required.open_outermost, Words.known_at_start}
use Rattle.check_steps.specs.Known.{Known, find_label, frame_at, label_at, row_at}
use Rattle.check_steps.specs.Steps.{◌>>=◌, Step, add_routine, ask, enter_block, extend, give, look}
use Rattle.check_steps.specs.declared.{breaks.Break.Break, regions.Frame.Frame, regions.Span.Span, words.SpelledToken.SpelledToken}
use Rattle.denoter_checker.specs.{Formals.is_function, RoutineParts.routine_name}
use Rattle.decl_checker.specs.{Parameters.program_parameters, Routines.block, Routines.own_frame, Scopes.routine_region}
use Rattle.decl_checker.specs.Programs.{define_program, main_row, open_program, program_step}
use Rattle.statement_checker.specs.{Labels.reach_all, Statements.compound}
use Rattle.code_checker.specs.{CheckedPrograms.broken, CheckedPrograms.check_step, CodePlaces.span_of}
use Rattle.code_checker.specs.Blocks.{code_block, code_body, code_routine, code_routines, statement_part}
use Rattle.code_checker.specs.Results.{function_result, has_result, name_in_first}
use Rattle.rule_laws.proofs.{Breaks.In, Breaks.found, Breaks.in_either, Breaks.of_each, Every.Every, Every.Of, InTurn.Wrong, InTurn.wrong_one}
use Rattle.rule_laws.proofs.{LabelTurns.found_here, LabelTurns.label_face, LabelsRight.compound_goes, Lasting.Lasting, LastsParameters.program_parameters-lasts}
use Rattle.rule_laws.proofs.{LastsPrograms.open_program-lasts, Laters.found_declared, Laters.longer_frame, Laters.longer_length, Laters.way_later}
use Rattle.rule_laws.proofs.{Listed.Listed, Listed.listed_right, MatedText.program_laid, MatedText.text_calm, Once.every_has, Once.has_every, Outward.Outward}
use Rattle.rule_laws.proofs.{Outward.outward_longer, Outward.outward_there, Placed.fresh_none, StatementLabels.reach_all-touches}
use Rattle.rule_laws.proofs.{StatementStatements.compound-touches, TextBlocks.whole, TextChains.later_coded, TextEnds.declarations_quiet, TextFields.Any}
use Rattle.rule_laws.proofs.{TextForwards.both_last, TextForwards.start_both, TextTables.Tidy, TextTables.defines_first}
use Rattle.rule_laws.proofs.Chains.{Chain, Fits, fits_left, fits_right, labels_have, text_ways}
use Rattle.rule_laws.proofs.Faces.{Shown, face, loose, marking, said}
use Rattle.rule_laws.proofs.LabelRight.{Aim, IsAim, Seen, face_same, rule_of, unmarking}
use Rattle.rule_laws.proofs.LabelTokens.{Once, compound_has, compound_once, once_after, once_before}
use Rattle.rule_laws.proofs.LabelTold.{Anywhere, Inside, IsWhere, anywhere, everywhere}
use Rattle.rule_laws.proofs.Leaves.{Leaves, add_routine-leaves, bind-leaves, give-leaves, is_fast}
use Rattle.rule_laws.proofs.OwnLabels.{But, Own, block_own, label_row, rest_leaves}
use Rattle.rule_laws.proofs.Standing.{Opened, Stands, got_still, no_frame, opened, opened_lasts, standing}
use Rattle.rule_laws.proofs.TextLabels.{Coded, Starts, home_then, own_then, starts, starts_outward, types_before}
use Rattle.rule_laws.proofs.TextScopes.{Any_told, Never, World, outermost_walk, program_world}
use Rattle.rule_laws.proofs.TextTokens.{before_dot, text_law, text_length, text_tokens}
use Rattle.rule_laws.proofs.Touches.{IsBeside, Same, Told, Touches, enter_block-touches, give-touches, same_in, same_then}
use Rattle.rule_laws.specs.{BlockLabels.compound_labels, BlockLabels.marks, CaseLaws.late_at, ForwardHeadings.is_block, NameLaws.block_labels}
use Rattle.rule_laws.specs.{OnlyLaws.OthersAreRight, TextLaws.has_label, TextLaws.labels_in_body, TextLaws.statement_labels, Tokens.Has, Tokens.IsDistinct}
use Rattle.rule_laws.specs.TextParts.{OfBody, OfEach, OfRoutine, OfRoutines}

-- ---- a label that marks no statement so far

-- The tables where the statements of a text begin. A label is declared at a token, at a level; a label in front of a
-- statement has its value. The name of the procedure or function with this block stands at another one.
pub record Target : Type 0 where
  pub k : Known
  pub d : ℕ
  pub level : ℕ
  pub t : ℕ
  pub name : ℕ

-- one of the two tokens whose rows are looked at
abbrev pub Mine : Target → ℕ → Type 0
Mine y n = (n ≡ y.d) ⊎ (n ≡ y.name)

-- neither is the last one
pub record IsTarget (y : Target) : Type 0 where
  pub tidy : Tidy y.k
  pub low : (n : ℕ) → Mine y n → suc n < length y.k.words

pub record Fresh (y : Target) (j : Known) : Type 0 where
  pub coded : Coded y.k j
  pub row : face marking (row_at j y.d) ≡ label_face false (label_at y.k y.t) y.level
  pub named : said (row_at j y.name) ≡ said (row_at y.k y.name)

-- no token of the label's and the name's
abbrev pub Not : Target → ℕ → Type 0
Not y n = Mine y n → ⊥

pub every_not : (y : Target) (x : Node) → ((n : ℕ) → Mine y n → Has x n → ⊥) → Every (Not y) x
every_not y (Leaf item) off = record { is = λ m. off item.number m refl }
every_not y Nothing off = tt
every_not y (Pair a b) off = (every_not y a (λ n m h. off n m (inl h)), every_not y b (λ n m h. off n m (inr h)))

-- a step that leaves it so, and does not tell the label in front of a statement
pub record Passes (y : Target) {A : Type 0} (m : Step A) : Type 0 where
  pub fresh : (j : Known) → Fresh y j → Fresh y (m j).known
  pub none : (j : Known) → Fresh y j → In (late_at 15 y.t) (m j).broken → ⊥

pub passes_then : {y : Target} {A B : Type 0} {m : Step A} {f : A → Step B} → Passes y m → ((a : A) → Passes y (f a)) → Passes y (m >>= f)
unfolding ◌>>=◌
passes_then {y = y} {m = m} {f = f} one two = record {
  fresh = λ j s. (two (m j).value).fresh (m j).known (one.fresh j s);
  none = λ j s i. elim (in_either (late_at 15 y.t) (m j).broken (f (m j).value (m j).known).broken i) [
    | inl l ↦ one.none j s l
    | inr r ↦ (two (m j).value).none (m j).known (one.fresh j s) r
  ];
}

loosen : {Q : ℕ → Type 0} {strict : Shown} (k j : Known) → Same Q strict k j → Same Anywhere loose k j
loosen k j s = record {
  words = s.words;
  texts = s.texts;
  routines = s.routines;
  regions = s.regions;
  many = s.many;
  frames = s.frames;
  still = λ e. absurd (let never : false ≡ true = e in cc);
  rows = λ n h. absurd (h.none (anywhere n));
  sayings = λ n. elim (s.sayings n) [
    | inl q ↦ inl (inl (anywhere n), q.1)
    | inr e ↦ inr e
  ];
  chosen = λ list h v. absurd (h (anywhere list));
  spent = s.spent;
  given = λ e. absurd (let never : false ≡ true = e in cc);
  grows = s.grows;
}

words_here : (y : Target) (j : Known) → Coded y.k j → label_at j y.t ≡ label_at y.k y.t
words_here y j i = ap (λ (ws : List SpelledToken). label_at (record y.k { words = ws }) y.t) i.same.words

beside_here : (y : Target) → IsTarget y → (Q : ℕ → Type 0) (j : Known) (n : ℕ) → Mine y n → Coded y.k j → (Of Q n → ⊥) → IsBeside Q j n
beside_here y is Q j n mine i off = record {
  none = off;
  before_end = λ e.
      let low = is.low n mine in
      let same = ap (λ (ws : List SpelledToken). length ws) i.same.words in
      omega (arith, low, same, e);
}

-- what is said at a token that a step does not touch
said_here : (y : Target) → IsTarget y → {Q : ℕ → Type 0} {strict : Shown} (j i : Known) → Coded y.k j → Same Q strict j i → (n : ℕ) → Mine y n
    → (Of Q n → ⊥) → said (row_at i n) ≡ said (row_at j n)
said_here y is {Q = Q} j i coded same n mine off =
    let beside = beside_here y is Q j n mine coded off in
    elim (same.sayings n) [
      | inl q ↦ absurd (elim q.0 [
        | inl o ↦ off o
        | inr e ↦ beside.before_end e
      ])
      | inr e ↦ e
    ]

pub passes : (y : Target) → IsTarget y → {A : Type 0} {m : Step A} → Touches (Not y) unmarking m → Passes y m
passes y is {m = m} touches = record {
  fresh = λ j s.
      let same = touches.same j in
      record {
        coded = record { same = same_then y.k j (m j).known s.coded.same (loosen j (m j).known same) };
        row = sym (face_same (row_at (m j).known y.d)) ∙ same.rows y.d (beside_here y is (Not y) j y.d (inl refl) s.coded (λ o. o.is (inl refl)))
            ∙ face_same (row_at j y.d) ∙ s.row;
        named = said_here y is j (m j).known s.coded same y.name (inr refl) (λ o. o.is (inr refl)) ∙ s.named;
      };
  none = λ j s i.
      let told = of_each (Told (Not y) unmarking) (late_at 15 y.t) (m j).broken (touches.told j) i in
      let never : true ≡ false = told.quiet refl in cc;
}

-- ---- the statements of a block

-- from this frame the label is found as that of a block further out, if at all
pub record Guard (y : Target) (g : ℕ) : Type 0 where
  pub outward : Outward y.k.frames g
  pub far : (j : Known) → Coded y.k j → (v : ℕ) → find_label j g v ≡ Some y.d → (frame_at j g).level - y.level ≡ 0 → ⊥

where_here : (y : Target) → IsTarget y → (g : ℕ) → Outward y.k.frames g → (j : Known) → Coded y.k j → IsWhere (record { k = j; frame = g; t = y.t })
where_here y is g out j i = record {
  outward = subst (λ (fs : List Frame). Outward fs g) (sym i.same.frames.is) (outward_longer y.k.frames i.same.frames.more g out);
  records = λ n region v e. ap (λ (rs : List RegionRows). declared_in rs region v) i.same.regions
      ∙ (is.tidy.typed n region (types_before y.k j i.same n region e)).none v;
}

abbrev aim_at : Target → Known → ℕ → CompoundTree → Bool → Aim
aim_at y j g c own = record { w = record { k = j; frame = g; t = y.t }; part = compound_node c; d = y.d; level = y.level; own = own }

never_wrong : (p : Aim) (S : ℕ → Type 0) → p.own ≡ false → (done xs : List ℕ) → Wrong (rule_of p S) done xs → ⊥
never_wrong p S other done [] w = w
never_wrong p S other done (x ∷ xs) (inl w) = off p.own (marks p.w.k done (label_at p.w.k p.w.t)) other w.1
  where
    off : (a b : Bool) → a ≡ false → (a && b) ≡ true → ⊥
    off false b e f = let never : false ≡ true = f in cc
    off true b e f = let never : true ≡ false = e in cc
never_wrong p S other done (x ∷ xs) (inr w) = never_wrong p S other (done ++ x ∷ []) xs w

-- of another block
other_passes : (y : Target) → IsTarget y → (g : ℕ) → Guard y g → (c : CompoundTree) → ((n : ℕ) → Mine y n → Has (compound_node c) n → ⊥)
    → (Has (compound_node c) y.t → ⊥) → Passes y (compound g c)
other_passes y is g guard c off out =
    let S : ℕ → Type 0 = λ h. h ≡ g in
    let aim : Known → Aim = λ j. aim_at y j g c false in
    let is_aim : (j : Known) → Fresh y j → IsAim (aim j) = λ j s. record {
      there = where_here y is g guard.outward j s.coded;
      beside = beside_here y is (Has (compound_node c)) j y.d (inl refl) s.coded (λ o. off y.d (inl refl) o.is);
      mine = λ e. absurd (let never : false ≡ true = e in cc);
      theirs = λ e. record { off = out; far = λ v found zero. guard.far j s.coded v found zero };
    } in
    let seen : (j : Known) → Fresh y j → Seen (aim j) S [] j = λ j s. record {
      turn = record {
        words = refl;
        regions = refl;
        sayings = λ n. inr refl;
        row = s.row ∙ ap (λ v. label_face false v y.level) (sym (words_here y j s.coded));
      };
      inside = λ h e. subst (Inside (aim j).w j) (sym e) (record { outward = (is_aim j s).there.outward; level = refl; finds = λ v. refl });
    } in
    record {
      fresh = λ j s.
          let ends = (compound_goes (aim j) (is_aim j s) S g refl c (every_has (compound_node c))).of [] j (seen j s) in
          record {
            coded = record {
              same = same_then y.k j (compound g c j).known s.coded.same ((compound-touches g c (everywhere (compound_node c))).same j);
            };
            row = ends.turn.turn.row ∙ ap (λ v. label_face false v y.level) (words_here y j s.coded);
            named = said_here y is j (compound g c j).known s.coded ((compound-touches {Q = Has (compound_node c)} g c (every_has (compound_node c))).same j)
                y.name (inr refl) (λ o. off y.name (inr refl) o.is) ∙ s.named;
          };
      none = λ j s i.
          let ends = (compound_goes (aim j) (is_aim j s) S g refl c (every_has (compound_node c))).of [] j (seen j s) in
          never_wrong (aim j) S refl [] (compound_labels c) (ends.forth i);
    }

-- from the block's own frame the label is found by its value alone
pub record Home (y : Target) (g : ℕ) (j : Known) : Type 0 where
  pub finds : find_label j g (label_at j y.t) ≡ Some y.d
  pub only : (v : ℕ) → find_label j g v ≡ Some y.d → v ≡ label_at j y.t
  pub level : (frame_at j g).level ≡ y.level

pub record Homes (y : Target) (g : ℕ) : Type 0 where
  pub outward : Outward y.k.frames g
  pub at : (j : Known) → Coded y.k j → Home y g j

flip : (a b : ℕ) → nat_eq a b ≡ nat_eq b a
flip a b = by (nat_eq a b) (nat_eq b a) refl refl
  where
    by : (p q : Bool) → nat_eq a b ≡ p → nat_eq b a ≡ q → p ≡ q
    by true true e f = refl
    by false false e f = refl
    by true false e f = sym (eq-eqb b a (sym (eqb-true a b e))) ∙ f
    by false true e f = sym e ∙ eq-eqb a b (sym (eqb-true b a f))

marks_has : (k : Known) (xs : List ℕ) (x : ℕ) → marks k xs (label_at k x) ≡ has_label k xs x
marks_has k [] x = refl
marks_has k (y ∷ ys) x =
    ap (λ b. b || marks k ys (label_at k x)) (flip (label_at k y) (label_at k x)) ∙ ap (λ b. nat_eq (label_at k x) (label_at k y) || b) (marks_has k ys x)

not_listed : (xs : List ℕ) (x : ℕ) → (Listed xs x → ⊥) → All (λ y. y ≡ x → ⊥) xs
not_listed [] x off = All-nil (λ y. y ≡ x → ⊥)
not_listed (y ∷ ys) x off = All-cons (λ y. y ≡ x → ⊥) y ys (λ e. off (inl e)) (not_listed ys x (λ h. off (inr h)))

-- of the block itself: the first one of its value is not told
own_silent : (y : Target) → IsTarget y → (g : ℕ) → Homes y g → (c : CompoundTree) → IsDistinct (compound_node c)
    → ((n : ℕ) → Mine y n → Has (compound_node c) n → ⊥) → (before after : List ℕ) → compound_labels c ≡ before ++ y.t ∷ after
    → has_label y.k before y.t ≡ false
    → (j : Known) → Fresh y j → In (late_at 15 y.t) (compound g c j).broken → ⊥
own_silent y is g home c distinct off before after same first j s i =
    let S : ℕ → Type 0 = λ h. h ≡ g in
    let p = aim_at y j g c true in
    let own = home.at j s.coded in
    let is_aim : IsAim p = record {
      there = where_here y is g home.outward j s.coded;
      beside = beside_here y is (Has (compound_node c)) j y.d (inl refl) s.coded (λ o. off y.d (inl refl) o.is);
      mine = λ e. record { finds = own.finds; only = own.only; level = own.level };
      theirs = λ e. absurd (let never : true ≡ false = e in cc);
    } in
    let seen : Seen p S [] j = record {
      turn = record {
        words = refl;
        regions = refl;
        sayings = λ n. inr refl;
        row = s.row ∙ ap (λ v. label_face false v y.level) (sym (words_here y j s.coded));
      };
      inside = λ h e. subst (Inside p.w j) (sym e) (record { outward = is_aim.there.outward; level = refl; finds = λ v. refl });
    } in
    let once = subst (λ l. Once l) same (compound_once c distinct) in
    let ends = (compound_goes p is_aim S g refl c (every_has (compound_node c))).of [] j seen in
    let w = wrong_one (rule_of p S) [] before y.t after (not_listed before y.t (once_before before y.t after once))
    (not_listed after y.t (once_after before y.t after once)) (subst (λ (xs : List ℕ). Wrong (rule_of p S) [] xs) same (ends.forth i)) in
    let spelled : has_label j before y.t ≡ has_label y.k before y.t
    = ap (λ (ws : List SpelledToken). has_label (record y.k { words = ws }) before y.t) s.coded.same.words in
    let never : true ≡ false = sym w ∙ marks_has j before y.t ∙ spelled ∙ first in cc

-- ---- blocks in blocks

-- of a procedure or function whose own label it is not
abbrev pub GuardOf : Target → RoutineTree → Type 0
GuardOf y r = is_block (routine_body r) ≡ true → (Listed (labels_in_body (routine_body r)) y.d → ⊥) → (j : Known) → Coded y.k j
    → Guard y (own_frame j (name_in_first j (routine_name r)))

block_label_has : (b : BlockTree) (d : ℕ) → Listed (block_labels b) d → Has (block_node b) d
block_label_has (tree.a_block labels constants types variables routines body) d h = inl (labels_have labels d h)

pub body_label_has : (body : BodyTree) (d : ℕ) → Listed (labels_in_body body) d → Has (body_node body) d
body_label_has (tree.a_directive directive) d h = absurd h
body_label_has (tree.a_block_body b) d h = block_label_has b d h

pub body_off : (y : Target) (c : CompoundTree) → ((n : ℕ) → Mine y n → Has (compound_node c) n → ⊥) → Every (Not y) (statements_node (compound_body c))
body_off y (statements.compound_statement word body last) off = every_not y (statements_node body) (λ n m i. off n m (inr (inl i)))

result_passes : (y : Target) (function : Bool) (name : ℕ) → Passes y (function_result function name)
unfolding function_result look ◌>>=◌ ask
result_passes y function name = record { fresh = λ j s. s; none = λ j s i. other (has_result j function name) i }
  where
    other : (fine : Bool) → In (late_at 15 y.t) (if fine then [] else late_at 12 name ∷ []) → ⊥
    other true i = i
    other false (inl e) = let same : 12 ≡ 15 = ap (λ (b : Break). number b.broken) e in omega (arith, same)
    other false (inr i) = i

looked_passes : {y : Target} {A B : Type 0} (f : Known → A) (g : A → Step B) → ((j : Known) → Fresh y j → Passes y (g (f j))) → Passes y (look f >>= g)
unfolding look ◌>>=◌
looked_passes f g rest = record { fresh = λ j s. (rest j s).fresh j s; none = λ j s i. (rest j s).none j s i }

part_passes : (y : Target) → IsTarget y → (g : ℕ) → Guard y g → (span : Span) (c : CompoundTree)
    → ((n : ℕ) → Mine y n → Has (compound_node c) n → ⊥) → (Has (compound_node c) y.t → ⊥) → Passes y (statement_part g span c)
unfolding statement_part
part_passes y is g guard span c off out = passes_then (passes y is (enter_block-touches span)) (λ _. passes_then (other_passes y is g guard c off out)
    (λ _. passes y is (give-touches tt)))

mutual
  block_passes : (y : Target) → IsTarget y → (g : ℕ) → Guard y g → (b : BlockTree) → OfRoutines (GuardOf y) b → ((n : ℕ) → Mine y n → Has (block_node b) n → ⊥)
      → (Has (block_node b) y.t → ⊥) → Passes y (code_block g b)
  block_passes y is g guard (tree.a_block labels constants types variables routines body) guards off out =
      passes_then (passes y is (reach_all-touches g (compound_body body) (body_off y body (λ n m i. off n m (inr (inr (inr (inr (inr i))))))))) (λ _.
      passes_then (routines_pass y is routines guards (λ n m i. off n m (inr (inr (inr (inr (inl i)))))) (λ i. out (inr (inr (inr (inr (inl i)))))))
      (λ _. part_passes y is g guard (span_of (tree.a_block labels constants types variables routines body)) body
      (λ n m i. off n m (inr (inr (inr (inr (inr i)))))) (λ i. out (inr (inr (inr (inr (inr i))))))))

  pub routines_pass : (y : Target) → IsTarget y → (rs : RoutineTrees) → OfEach (GuardOf y) rs → ((n : ℕ) → Mine y n → Has (routines_node rs) n → ⊥)
      → (Has (routines_node rs) y.t → ⊥) → Passes y (code_routines rs)
  routines_pass y is tree.end_of_routines guards off out = passes y is (give-touches tt)
  routines_pass y is (tree.more_routines r rest) guards off out =
      passes_then (routine_passes y is r guards.0 (λ n m i. off n m (inl i)) (λ i. out (inl i)))
      (λ _. routines_pass y is rest guards.1 (λ n m i. off n m (inr i)) (λ i. out (inr i)))

  pub routine_passes : (y : Target) → IsTarget y → (r : RoutineTree) → OfRoutine (GuardOf y) r → ((n : ℕ) → Mine y n → Has (routine_node r) n → ⊥)
      → (Has (routine_node r) y.t → ⊥) → Passes y (code_routine r)
  routine_passes y is (tree.a_routine heading semicolon body last_semicolon) guards off out =
      body_passes y is (is_function heading) (heading_name heading) body
      (λ block j i. guards.0 block (λ h. off y.d (inl refl) (inr (inr (inl (body_label_has body y.d h))))) j i) guards.1
      (λ n m i. off n m (inr (inr (inl i)))) (λ i. out (inr (inr (inl i))))

  body_passes : (y : Target) → IsTarget y → (function : Bool) (name : ℕ) (body : BodyTree)
      → (is_block body ≡ true → (j : Known) → Coded y.k j → Guard y (own_frame j (name_in_first j name))) → OfBody (GuardOf y) body
      → ((n : ℕ) → Mine y n → Has (body_node body) n → ⊥) → (Has (body_node body) y.t → ⊥) → Passes y (code_body function name body)
  body_passes y is function name (tree.a_directive directive) guard guards off out = passes y is (give-touches tt)
  body_passes y is function name (tree.a_block_body b) guard guards off out =
      looked_passes (λ j. own_frame j (name_in_first j name)) (λ frame. code_block frame b >>= λ _. function_result function name)
      (λ j s. passes_then (block_passes y is (own_frame j (name_in_first j name)) (guard refl j s.coded) b guards off out)
      (λ _. result_passes y function name))

-- the block that has the label
pub own_block : (y : Target) → IsTarget y → (g : ℕ) → Homes y g → (b : BlockTree) → OfRoutines (GuardOf y) b → IsDistinct (block_node b)
    → Listed (block_labels b) y.d → (y.name ≡ y.d) ⊎ (Has (block_node b) y.name → ⊥) → (before after : List ℕ) → statement_labels b ≡ before ++ y.t ∷ after
    → has_label y.k before y.t ≡ false
    → (j : Known) → Fresh y j → In (late_at 15 y.t) (code_block g b j).broken → ⊥
unfolding statement_part ◌>>=◌ give
own_block y is g home (tree.a_block labels constants types variables routines body) guards distinct own name before after same first j s i =
    let b = late_at 15 y.t in
    let has = labels_have labels y.d own in
    let apart : (n : ℕ) → Mine y n → Has (Pair (routines_node routines) (compound_node body)) n → ⊥ = λ n m h. elim m [
      | inl e ↦ label_apart n (subst (Has (label_part_node labels)) (sym e) has) h
      | inr e ↦ elim name [
        | inl same_name ↦ label_apart n (subst (Has (label_part_node labels)) (sym (e ∙ same_name)) has) h
        | inr out ↦ out (subst (Has (block_node (tree.a_block labels constants types variables routines body))) e (elim h [
          | inl r ↦ inr (inr (inr (inr (inl r))))
          | inr c ↦ inr (inr (inr (inr (inr c))))
        ]))
      ]
    ] in
    let span = span_of (tree.a_block labels constants types variables routines body) in
    let one = passes y is (reach_all-touches g (compound_body body) (body_off y body (λ n m h. apart n m (inr h)))) in
    let here : Listed (compound_labels body) y.t = subst (λ l. Listed l y.t) (sym same) (listed_right before (y.t ∷ after) y.t (inl refl)) in
    let two = routines_pass y is routines guards (λ n m h. apart n m (inl h))
    (λ h. distinct.1.1.1.1.2 y.t h (compound_has body y.t here)) in
    let three = passes y is (enter_block-touches span) in
    let a = reach_all g (compound_body body) j in
    let c = code_routines routines a.known in
    let e = enter_block span c.known in
    let f = compound g body e.known in
    let s_one = one.fresh j s in
    let s_two = two.fresh a.known s_one in
    let s_three = three.fresh c.known s_two in
    elim (in_either b a.broken (c.broken ++ (e.broken ++ (f.broken ++ []))) i) [
      | inl l ↦ one.none j s l
      | inr r ↦ elim (in_either b c.broken (e.broken ++ (f.broken ++ [])) r) [
        | inl l ↦ two.none a.known s_one l
        | inr q ↦ elim (in_either b e.broken (f.broken ++ []) q) [
          | inl l ↦ three.none c.known s_two l
          | inr p ↦ elim (in_either b f.broken [] p) [
            | inl l ↦ own_silent y is g home body distinct.1.1.1.1.1 (λ n m h. apart n m (inr h)) before after same first e.known s_three l
            | inr n ↦ n
          ]
        ]
      ]
    ]
  where
    label_apart : (n : ℕ) → Has (label_part_node labels) n → Has (Pair (routines_node routines) (compound_node body)) n → ⊥
    label_apart n l (inl r) = distinct.2 n l (inr (inr (inr (inl r))))
    label_apart n l (inr c) = distinct.2 n l (inr (inr (inr (inr c))))

-- ---- the program's own block

-- the frame of the program's block
abbrev program_frame : Lexed → Frame
program_frame l = let o = open_outermost (known_at_start l) in record { region = length o.known.regions; outer = Some o.value; level = 0; withs = 0 }

-- stands with a region that declares nothing
program_opened : (l : Lexed) → let d = open_program (known_at_start l) in Opened (Stands d.value (program_frame l)) d.value (program_frame l) d.known
unfolding open_program extend ◌>>=◌
program_opened l =
    let o = open_outermost (known_at_start l) in
    let f = program_frame l in
    record { kept = opened o.known 0 f refl; stands = opened o.known 0 f refl; none = λ v. fresh_none o.known 0 f refl v }

-- where its names are defined
program_own : (l : Lexed) (t : ProgramTree) (d : ℕ) → IsDistinct (block_node t.block) → d < length (known_at_start l).words → Listed (block_labels t.block) d
    → Own (known_at_start l) (open_program (known_at_start l)).value (program_frame l) (block_labels t.block) d (defines_first l t)
unfolding define_program look ◌>>=◌
program_own l t d distinct few h =
    let k = known_at_start l in
    let f = program_frame l in
    let o = open_program k in
    let region = (frame_at o.known o.value).region in
    let c : Lasting Any (Stands o.value f) = standing o.value f in
    let both = both_last k t.block in
    let none = (program_parameters-lasts (opened_lasts c o.value f) region t.parameters).of o.known (program_opened l) in
    block_own k t.block o.value f t.block d (program_parameters region t.parameters o.known).known distinct few h (record {
      both = (program_parameters-lasts both region t.parameters).of o.known ((open_program-lasts both).of k (start_both l t.block));
      stands = none.stands;
      mine = λ v m e. absurd (none-some m (sym (none.none v) ∙ e));
    })

-- and where its statements begin
program_row : (l : Lexed) (t : ProgramTree) (d : ℕ) → IsDistinct (block_node t.block) → d < length (known_at_start l).words → Listed (block_labels t.block) d
    → row_at (program_step t (known_at_start l)).known d ≡ label_row (known_at_start l) (program_frame l) d
unfolding program_step ◌>>=◌
program_row l t d distinct few h =
    let frame = (open_program (known_at_start l)).value in
    let own = program_own l t d distinct few h in
    let rest : Leaves (But d) (add_routine (main_row t.name) >>= λ number. block frame number 1 t.block >>= λ _. give frame) =
    bind-leaves (add_routine-leaves (main_row t.name)) (λ number. bind-leaves (rest_leaves frame number 1 t.block d distinct h) (λ _. give-leaves frame)) in
    rest.of (defines_first l t) d (λ o. o.is refl) (ap is_fast own.row) ∙ own.row

program_value : (l : Lexed) (t : ProgramTree) → (program_step t (known_at_start l)).value ≡ (open_program (known_at_start l)).value
unfolding program_step give ◌>>=◌
program_value l t = refl

-- ---- the frames of procedures and functions

-- The first region's own frame finds no label, and all others are further in than the program's block.
outer_guard : (y : Target) (c : Chain) → IsTarget y → World (outermost_walk c) y.k → y.level ≡ 0 → (x : ℕ) (j : Known) → Coded y.k j
    → Guard y (own_frame j (name_in_first j x))
outer_guard y c is w level x j i =
    let name = name_in_first j x in
    let region = routine_region (row_at j name) in
    let home = home_then y.k j name is.tidy i (row_at j name) refl in
    let own = (region_at y.k.regions region).frame in
    let same : own_frame j name ≡ own = ap (λ (rs : List RegionRows). (region_at rs region).frame) i.same.regions in
    record {
      outward = own_then y.k j name is.tidy i;
      far = λ h coded v found zero. elim home.deep [
        | inl first ↦
            let f = w.view.first in
            let at : own_frame j name ≡ 0 = same ∙ ap (λ r. (region_at y.k.regions r).frame) first ∙ f.later.own 0 f.is.inside ∙ f.is.home in
            let way = way_later Never 0 y.k h (later_coded y.k h coded) (way_later Never 0 f.before y.k f.later f.is.way) in
            way.finds v y.d (sym (ap (λ g. find_label h g v) at) ∙ found)
        | inr deep ↦
            let there = outward_there y.k.frames own home.outward in
            let frame : frame_at h (own_frame j name) ≡ frame_at y.k own
            = ap (frame_at h) same ∙ longer_frame y.k.frames h.frames own coded.same.frames there in
            let levels = ap (λ (f : Frame). f.level) frame in
            omega (arith, deep, levels, zero, level)
      ];
    }

mutual
  outer_block : (y : Target) → ((x : ℕ) (j : Known) → Coded y.k j → Guard y (own_frame j (name_in_first j x))) → (b : BlockTree)
      → OfRoutines (GuardOf y) b
  outer_block y guard (tree.a_block labels constants types variables routines body) = outer_part y guard routines

  outer_part : (y : Target) → ((x : ℕ) (j : Known) → Coded y.k j → Guard y (own_frame j (name_in_first j x))) → (rs : RoutineTrees)
      → OfEach (GuardOf y) rs
  outer_part y guard tree.end_of_routines = tt
  outer_part y guard (tree.more_routines r rest) = (outer_routine y guard r, outer_part y guard rest)

  outer_routine : (y : Target) → ((x : ℕ) (j : Known) → Coded y.k j → Guard y (own_frame j (name_in_first j x))) → (r : RoutineTree)
      → OfRoutine (GuardOf y) r
  outer_routine y guard (tree.a_routine heading semicolon body last_semicolon) = ((λ block off j i. guard (heading_name heading) j i), outer_body y guard body)

  outer_body : (y : Target) → ((x : ℕ) (j : Known) → Coded y.k j → Guard y (own_frame j (name_in_first j x))) → (body : BodyTree)
      → OfBody (GuardOf y) body
  outer_body y guard (tree.a_directive directive) = tt
  outer_body y guard (tree.a_block_body b) = outer_block y guard b

-- ---- a label that its block declares

pub record Found (l : List ℕ) (k : Known) (x : ℕ) : Type 0 where
  pub d : ℕ
  pub listed : Listed l d
  pub same : label_at k d ≡ label_at k x

pub has_found : (k : Known) (xs : List ℕ) (x : ℕ) → has_label k xs x ≡ true → Found xs k x
has_found k [] x e = absurd (let never : false ≡ true = e in cc)
has_found k (y ∷ ys) x e = by (nat_eq (label_at k x) (label_at k y)) refl e (λ later. has_found k ys x later)
  where
    by : (b : Bool) → nat_eq (label_at k x) (label_at k y) ≡ b → (b || has_label k ys x) ≡ true → (has_label k ys x ≡ true → Found ys k x)
        → Found (y ∷ ys) k x
    by true same e more = record { d = y; listed = inl refl; same = sym (eqb-true (label_at k x) (label_at k y) same) }
    by false same e more = let f = more e in record { d = f.d; listed = inr f.listed; same = f.same }

-- The frame that a label's region has finds it by its value alone.
pub homes_of : (l : Lexed) (t : ProgramTree) → Starts l t → (y : Target) → y.k ≡ (program_step t (known_at_start l)).known → (g : ℕ) (f : Frame)
    → Outward y.k.frames g → slice_get y.k.frames g ≡ Some f → f.level ≡ y.level → label_at (known_at_start l) y.d ≡ label_at (known_at_start l) y.t
    → declared_in y.k.regions f.region (label_at (known_at_start l) y.t) ≡ Some y.d → Homes y g
homes_of l t s y is g f out got level value declared = record {
  outward = out;
  at = λ h i.
      let k = known_at_start l in
      let words : h.words ≡ k.words = i.same.words ∙ ap (λ (j : Known). j.words) is ∙ s.begun.words in
      let there : slice_get h.frames g ≡ Some f
      = ap (λ (gs : List Frame). slice_get gs g) i.same.frames.is ∙ got_still y.k.frames i.same.frames.more g f got in
      let frame : frame_at h g ≡ f = ap (λ (o : Option Frame). unwrap_or o no_frame) there in
      let spelled : label_at h y.t ≡ label_at k y.t = ap (λ (ws : List SpelledToken). label_at (record k { words = ws }) y.t) words in
      let here : declared_in h.regions (frame_at h g).region (label_at h y.t) ≡ Some y.d
      = ap (λ (x : Frame). declared_in h.regions x.region (label_at h y.t)) frame ∙ ap (declared_in h.regions f.region) spelled
      ∙ ap (λ (rs : List RegionRows). declared_in rs f.region (label_at k y.t)) i.same.regions ∙ declared in
      let some = outward_there y.k.frames g out in
      let more = longer_length y.k.frames h.frames i.same.frames in
      record {
        finds = found_here h (length h.frames) g (label_at h y.t) y.d (omega (arith, some, more)) here;
        only = λ w found.
            let at = found_declared h w y.d (length h.frames) (Some g) found in
            let before : declared_in y.k.regions at.region w ≡ Some y.d =
            sym (ap (λ (rs : List RegionRows). declared_in rs at.region w) i.same.regions) ∙ at.is in
            let known = subst (λ (j : Known). declared_in j.regions at.region w ≡ Some y.d) is before in
            sym (s.declared at.region w y.d known).0 ∙ value ∙ sym spelled;
        level = ap (λ (x : Frame). x.level) frame ∙ level;
      };
}

-- a token of the text's block stands before its last one
pub block_low : (l : Lexed) (t : ProgramTree) → spell (tree_node t) ≡ items_of l.tokens → (d : ℕ) → Has (block_node t.block) d
    → suc d < length (known_at_start l).words
block_low l t spelled d has =
    let before = before_dot l.tokens t spelled d has in
    let within = (has_every (tree_node t) t.dot (text_tokens l t spelled) (inr (inr (inr (inr (inr (inl refl))))))).is in
    omega (arith, before, within)

-- what is known where the statements of a text begin
pub text_world : (l : Lexed) (t : ProgramTree) → spell (tree_node t) ≡ items_of l.tokens → length l.tokens < 2 ^ 32
    → World (outermost_walk (record { k = known_at_start l; t = t.block })) (program_step t (known_at_start l)).known
text_world l t spelled few =
    let c : Chain = record { k = known_at_start l; t = t.block } in
    let long = text_length l.tokens t spelled in
    let fits : Fits 0 (tree_node t) = record { is = omega (arith, long, few) } in
    let own = (fits_left (fits_right (fits_right (fits_right (fits_right fits))))).is in
    let calm = text_calm l t spelled few in
    program_world l t (text_ways c (text_law l.tokens t spelled).1.1.1.1.0 (omega (arith, own))) (whole l t spelled) calm
    (program_laid l t Any_told spelled calm (λ x has. tt))

-- ---- the program's labels

pub program_right : (l : Lexed) (t : ProgramTree) → spell (tree_node t) ≡ items_of l.tokens → length l.tokens < 2 ^ 32
    → OthersAreRight (known_at_start l) (broken l t) (block_labels t.block) (statement_labels t.block)
unfolding check_step ◌>>=◌
program_right l t spelled few before label after same first declared contained =
    let k = known_at_start l in
    let p = program_step t k in
    let j = p.known in
    let b = late_at 15 label in
    let s = starts l t in
    let distinct : IsDistinct (block_node t.block) = (text_law l.tokens t spelled).1.1.1.1.0 in
    let has = has_found k (block_labels t.block) label declared in
    let low = block_low l t spelled has.d (block_label_has t.block has.d has.listed) in
    let own = program_own l t has.d distinct (omega (arith, low)) has.listed in
    let f = program_frame l in
    let n = (open_program k).value in
    let v = label_at k label in
    let valued = s.programs.walked.valued in
    let d = own.first in
    let less = own.declares.stands.below in
    let here : declared_in j.regions f.region v ≡ Some d
    = valued.stay f.region v less ∙ ap (declared_in (defines_first l t).regions f.region) (sym has.same) ∙ own.declares.is in
    let at : label_at k d ≡ v = (valued.declared f.region v d here).0 in
    let d_has = block_label_has t.block d own.listed in
    let d_low = block_low l t spelled d d_has in
    let row = program_row l t d distinct (omega (arith, d_low)) own.listed in
    let y : Target = record { k = j; d = d; level = 0; t = label; name = d } in
    let spelled_in : label_at j label ≡ v = ap (λ (ws : List SpelledToken). label_at (record k { words = ws }) label) s.begun.words in
    let is : IsTarget y = record {
      tidy = s.begun.tidy;
      low = λ m mine. elim mine [
        | inl e ↦ (let words = ap (λ (ws : List SpelledToken). length ws) s.begun.words in omega (arith, d_low, words, e))
        | inr e ↦ (let words = ap (λ (ws : List SpelledToken). length ws) s.begun.words in omega (arith, d_low, words, e))
      ];
    } in
    let fresh : Fresh y j = record {
      coded = record { same = same_in j };
      row = ap (face marking) row ∙ ap (λ m. label_face false m 0) (at ∙ sym spelled_in);
      named = refl;
    } in
    let guards = outer_block y (outer_guard y (record { k = k; t = t.block }) is (text_world l t spelled few) refl) t.block in
    let there : slice_get j.frames p.value ≡ Some f = ap (slice_get j.frames) (program_value l t)
    ∙ ap (λ (gs : List Frame). slice_get gs n) valued.frames.is ∙ got_still (defines_first l t).frames valued.frames.more n f own.declares.stands.there in
    let homes = homes_of l t s y refl p.value f (starts_outward l t s) there refl at here in
    let e = code_block p.value t.block j in
    elim (in_either b p.broken e.broken (found b (p.broken ++ e.broken) contained)) [
      | inl early ↦ declarations_quiet l t 15 label refl early
      | inr told ↦ own_block y is p.value homes t.block guards distinct own.listed (inl refl) before after same
          (ap (λ (ws : List SpelledToken). has_label (record k { words = ws }) before label) s.begun.words ∙ first) j fresh told
    ]
