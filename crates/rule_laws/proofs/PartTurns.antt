-- The procedures and functions of a text's part in turn: which of them have the block of an earlier heading.
use Rattle.std.proofs.Common.{if◌then◌else◌, ◌&&◌, ◌++◌, ◌<◌, ◌||◌, ◌∙◌, ◌∷◌, ◌≡◌, ◌⊎◌, [], ℕ, Bool, List, None, Option, Some, ap, arith, false, inl, inr}
use Rattle.std.proofs.Common.{is_none, is_some, length, map, nat_eq, not, refl, subst, sym, true}
use Rattle.std.proofs.lemmas.{Bool.eq-eqb, Bool.eqb-true, List.append-nil, List.append_assoc, Option.none-some, Option.same_Some}
use Rattle.pas_tree.specs.{HeadingPlaces.heading_name, HeadingTrees.HeadingTree}
use Rattle.pas_tree.specs.BlockTrees.{BlockTree, BodyTree, RoutineTree, RoutineTrees, routine_body, routine_heading}
use Rattle.pas_tree.specs.BlockTrees as tree
use Rattle.core_program.specs.declared.rows.{NameRow.NameRow, PartRow.PartRow, Row.Row, TypeRow.TypeRow}
use Rattle.check_steps.specs.{Known.Known, Known.name_at, Known.row_at, Known.with_row, Names.define_in, Regions.defined_in}
use Rattle.check_steps.specs.Steps.{◌>>=◌, add_definition, ask, change, give, look, put, when}
use Rattle.check_steps.specs.declared.regions.{Def.Def, Definition.Definition}
use Rattle.denoter_checker.specs.Formals.{is_function}
use Rattle.denoter_checker.specs.RoutineParts.{awaiting, awaits, block_in, complete_or_define, completed_by, completing, define_each_routine, define_heading}
use Rattle.denoter_checker.specs.RoutineParts.{define_routine, define_routines, defining, directed, directive_in, is_forward, routine_name}
use Rattle.rule_laws.proofs.{Breaks.Each, Breaks.In, Breaks.in_left, Breaks.in_right, Faces.row_either, Listed.Listed, Listed.each_at, NameTurns.Region}
use Rattle.rule_laws.proofs.{NameTurns.Turn, NameTurns.named, SecondHeadings.has_turn, Tables.row_put, TextFields.or_true, Touches.any-last}
use Rattle.rule_laws.proofs.Lasting.{Declaring, Lasting, with_completion}
use Rattle.rule_laws.proofs.LastsRoutineParts.{completed, define_heading-lasts, define_routine-lasts, have_blocks-lasts}
use Rattle.rule_laws.proofs.Seats.{AnyKind, ForwardKind, Kind, Nobody, Seat, SeatsIn, SeatsOf, SomeAt, some_any}
use Rattle.rule_laws.proofs.TextForwards.{Both, awaits_kind, both_all, both_last, forward_same, found_block}
use Rattle.rule_laws.proofs.TextHeadings.{IsOfText, awaited, completed_found, completion_sound, defined_either, no_completing, no_forward, no_name, no_record}
use Rattle.rule_laws.proofs.TextHeadings.{row_completing, row_forward, same_row, spelled_as, waits_row}
use Rattle.rule_laws.proofs.TextRoutines.{defining_here, directive_regions, or_either}
use Rattle.rule_laws.specs.{Laws.broken_at, TextLaws.has_name}
use Rattle.rule_laws.specs.ForwardHeadings.{are_completing, completes, has_forward, have_one_name, is_block, is_named, is_second, routines_in, same_kind}

-- ---- the first of a name

-- the name of the first that has another's, among some
abbrev pub first_token : Known → List RoutineTree → RoutineTree → Option ℕ
first_token k [] r = None
first_token k (q ∷ qs) r = if have_one_name k q r then Some (routine_name q) else first_token k qs r

-- one that has the block of the first heading of its name, which has its name at this token
abbrev pub SecondOf : Known → ℕ → Kind
SecondOf k first before r = (is_second k before r ≡ true) × (first_token k before r ≡ Some first)

pub listed_last : (done : List RoutineTree) (s : RoutineTree) (n : ℕ) → Listed (map routine_name (done ++ s ∷ [])) n
    → Listed (map routine_name done) n ⊎ (routine_name s ≡ n)
listed_last [] s n (inl e) = inr e
listed_last [] s n (inr h) = absurd h
listed_last (q ∷ qs) s n (inl e) = inl (inl e)
listed_last (q ∷ qs) s n (inr h) = elim (listed_last qs s n h) [
  | inl l ↦ inl (inr l)
  | inr e ↦ inr e
]

first_more : (k : Known) (done : List RoutineTree) (s r : RoutineTree) (m : ℕ) → first_token k done r ≡ Some m → first_token k (done ++ s ∷ []) r ≡ Some m
first_more k [] s r m e = absurd (none-some m e)
first_more k (q ∷ qs) s r m e =
    by (have_one_name k q r) (first_token k qs r) (first_token k (qs ++ s ∷ []) r) (λ h. first_more k qs s r m h) e
  where
    by : (b : Bool) (o u : Option ℕ) → (o ≡ Some m → u ≡ Some m) → (if b then Some (routine_name q) else o) ≡ Some m
        → (if b then Some (routine_name q) else u) ≡ Some m
    by true o u f e = e
    by false o u f e = f e

-- ---- rows of headings

-- Rows of forward headings stand at names of such; and those of headings that complete them, at names of such.
pub record Marked (k : Known) (t : BlockTree) (j : Known) : Type 0 where
  pub forward : (n : ℕ) (function : Bool) (block : Option ℕ) → row_at j n ≡ Row.Part (PartRow.Forward function block)
      → SomeAt (ForwardKind k function) n t
  pub completing : (n first : ℕ) → row_at j n ≡ Row.Part (PartRow.Completing first) → SomeAt (SecondOf k first) n t

marked_alike : (k : Known) (t : BlockTree) (j i : Known) → ((n : ℕ) → row_at i n ≡ row_at j n) → Marked k t j → Marked k t i
marked_alike k t j i rows s = record {
  forward = λ n function block e. s.forward n function block (sym (rows n) ∙ e);
  completing = λ n first e. s.completing n first (sym (rows n) ∙ e);
}

put_marked : (k : Known) (t : BlockTree) (j : Known) (m : ℕ) (r : Row)
    → ((function : Bool) (block : Option ℕ) → r ≡ Row.Part (PartRow.Forward function block) → SomeAt (ForwardKind k function) m t)
    → ((first : ℕ) → r ≡ Row.Part (PartRow.Completing first) → SomeAt (SecondOf k first) m t) → Marked k t j → Marked k t (with_row j m r)
put_marked k t j m r forward completing s = record {
  forward = λ n function block e. elim (row_either j m n r) [
    | inl old ↦ s.forward n function block (sym old ∙ e)
    | inr new ↦ subst (λ x. SomeAt (ForwardKind k function) x t) (sym new.0) (forward function block (sym new.1 ∙ e))
  ];
  completing = λ n first e. elim (row_either j m n r) [
    | inl old ↦ s.completing n first (sym old ∙ e)
    | inr new ↦ subst (λ x. SomeAt (SecondOf k first) x t) (sym new.0) (completing first (sym new.1 ∙ e))
  ];
}

-- and what else is known of a text's tokens
pub record Orderly (k : Known) (t : BlockTree) (j : Known) : Type 0 where
  pub both : Both k t j
  pub marked : Marked k t j

-- no procedure or function
abbrev pub NoRoutine : RoutineTree → Type 0
NoRoutine r = ⊥

put_orderly : (k : Known) (t : BlockTree) (j : Known) (m : ℕ) (r : Row) → Both k t (with_row j m r)
    → ((function : Bool) (block : Option ℕ) → r ≡ Row.Part (PartRow.Forward function block) → ⊥)
    → ((first : ℕ) → r ≡ Row.Part (PartRow.Completing first) → ⊥) → Marked k t j → Orderly k t (with_row j m r)
put_orderly k t j m r both forward completing s = record {
  both = both;
  marked = put_marked k t j m r (λ function block e. absurd (forward function block e)) (λ first e. absurd (completing first e)) s;
}

pub orderly_lasts : (k : Known) (t : BlockTree) → Lasting NoRoutine (Orderly k t)
orderly_lasts k t = let c = both_last k t in record {
  puts = λ j m r quiet s. put_orderly k t j m r (c.puts j m r quiet s.both) (λ function block e. no_forward r function block quiet e)
      (λ first e. no_completing r first quiet e) s.marked;
  stays = λ j m s. record {
    both = c.stays j m s.both;
    marked = marked_alike k t j (with_row j m (row_at j m)) (same_row j m) s.marked;
  };
  bodies = λ j n r same s. record {
    both = c.bodies j n r same s.both;
    marked = record { forward = s.marked.forward; completing = s.marked.completing };
  };
  routines = λ j r s. record { both = c.routines j r s.both; marked = record { forward = s.marked.forward; completing = s.marked.completing } };
  frames = λ j f s. record { both = c.frames j f s.both; marked = record { forward = s.marked.forward; completing = s.marked.completing } };
  regions = λ j token f s. record {
    both = c.regions j token f s.both;
    marked = record { forward = s.marked.forward; completing = s.marked.completing };
  };
  defines = λ j region d at s. record {
    both = c.defines j region d at s.both;
    marked = record { forward = s.marked.forward; completing = s.marked.completing };
  };
  requires = λ j name d behind s. record {
    both = c.requires j name d behind s.both;
    marked = record { forward = s.marked.forward; completing = s.marked.completing };
  };
  chooses = λ j list value s. record {
    both = c.chooses j list value s.both;
    marked = record { forward = s.marked.forward; completing = s.marked.completing };
  };
  records = λ j word packed region cells variants fresh s.
      put_orderly k t j word (Row.Type (TypeRow.Record packed region cells variants)) (c.records j word packed region cells variants (record {
        before = fresh.before;
        held = fresh.held.both;
        opened = fresh.opened;
        there = fresh.there;
        none = fresh.none;
      }) s.both) (λ function block e. no_record packed region cells variants e) (λ first e. no_record packed region cells variants e) s.marked;
  waits = λ j r g none s. absurd g;
  completes = λ j region first position r g e s. absurd g;
}

pub orderly_all : (k : Known) (t : BlockTree) → Declaring NoRoutine (Orderly k t)
orderly_all k t = let c = both_all k t in record {
  kept = orderly_lasts k t;
  ends = λ j region d s. record {
    both = c.ends j region d s.both;
    marked = record { forward = s.marked.forward; completing = s.marked.completing };
  };
  declares = λ j region value token s. record {
    both = c.declares j region value token s.both;
    marked = record { forward = s.marked.forward; completing = s.marked.completing };
  };
  labels = λ j token value level s. put_orderly k t j token (Row.Name (NameRow.Label false value level 0)) (c.labels j token value level s.both)
      (λ function block e. no_name e) (λ first e. no_name e) s.marked;
  heads = λ j name number region named few s. put_orderly k t j name (Row.Name (NameRow.Routine false number region))
      (c.heads j name number region named few s.both) (λ function block e. no_name e) (λ first e. no_name e) s.marked;
}

-- ---- which has the block of the first of its name, after one more

if_more : (b f c a more rest rest' : Bool) → (c ≡ true → more ≡ true → ⊥) → (rest ≡ true → rest' ≡ true)
    → (if b then f && (c && not a) else rest) ≡ true → (if b then f && (c && not (a || more)) else rest') ≡ true
if_more true true true false false rest rest' apart on e = refl
if_more true true true false true rest rest' apart on e = absurd (apart refl refl)
if_more true true true true more rest rest' apart on e = absurd (let never : false ≡ true = e in cc)
if_more true true false a more rest rest' apart on e = absurd (let never : false ≡ true = e in cc)
if_more true false c a more rest rest' apart on e = absurd (let never : false ≡ true = e in cc)
if_more false f c a more rest rest' apart on e = on e

second_more : (k : Known) (done : List RoutineTree) (s r : RoutineTree)
    → ((q : RoutineTree) → completes k q r ≡ true → completes k q s ≡ true → ⊥) → is_second k done r ≡ true → is_second k (done ++ s ∷ []) r ≡ true
second_more k [] s r apart e = absurd (let never : false ≡ true = e in cc)
second_more k (q ∷ qs) s r apart e =
    ap (λ a. if have_one_name k q r then has_forward k (routine_body q) && (completes k q r && not a) else is_second k (qs ++ s ∷ []) r)
    (any-last (completes k q) qs s)
    ∙ if_more (have_one_name k q r) (has_forward k (routine_body q)) (completes k q r) (are_completing k q qs) (completes k q s) (is_second k qs r)
    (is_second k (qs ++ s ∷ []) r) (apart q) (second_more k qs s r apart) e

pub or_neither : (a b : Bool) → (a || b) ≡ false → (a ≡ false) × (b ≡ false)
or_neither false b e = (refl, e)
or_neither true b e = absurd (let never : true ≡ false = e in cc)

second_last : (k : Known) (done : List RoutineTree) (s r : RoutineTree) → is_named k done r ≡ false → have_one_name k s r ≡ true
    → has_forward k (routine_body s) ≡ true → completes k s r ≡ true → is_second k (done ++ s ∷ []) r ≡ true
second_last k [] s r none same forward completed =
    ap (λ b. if b then has_forward k (routine_body s) && (completes k s r && true) else false) same
    ∙ ap (λ f. f && (completes k s r && true)) forward ∙ ap (λ c. c && true) completed
second_last k (q ∷ qs) s r none same forward completed =
    let parts = or_neither (have_one_name k q r) (is_named k qs r) none in
    ap (λ b. if b then has_forward k (routine_body q) && (completes k q r && not (are_completing k q (qs ++ s ∷ [])))
    else is_second k (qs ++ s ∷ []) r) parts.0
    ∙ second_last k qs s r parts.1 same forward completed

-- ---- a part after some of its procedures and functions

-- a name that was defined before them, where none of the text's is named
pub record Earlier (t : BlockTree) (region n : ℕ) (j : Known) : Type 0 where
  pub d : Definition
  pub is : defined_in j.regions region n ≡ Some d
  pub apart : Nobody t d.token

-- The region has definitions of some names, and of those of the part's that were gone over. What one of them would
-- complete is the first of its name.
pub record Part (k : Known) (t : BlockTree) (region : ℕ) (names : List ℕ) (done : List RoutineTree) (j : Known) : Type 0 where
  pub orderly : Orderly k t j
  pub there : region < length j.regions
  pub old : (n : ℕ) → named k names n ≡ true → Earlier t region n j
  pub heads : (r : RoutineTree) → is_named k done r ≡ true → is_some (defined_in j.regions region (name_at k (routine_name r))) ≡ true
  pub tokens : (n : ℕ) (d : Definition) → defined_in j.regions region n ≡ Some d → Nobody t d.token ⊎ Listed (map routine_name done) d.token
  pub second : (r : RoutineTree) (first : ℕ) → completed_by j region (routine_heading r) (routine_body r) ≡ Some first → is_second k done r ≡ true
  pub owner : (r : RoutineTree) (d : Definition) → defined_in j.regions region (name_at k (routine_name r)) ≡ Some d
      → Listed (map routine_name done) d.token → first_token k done r ≡ Some d.token

-- what would be completed, by the definition
pub found_back : (j : Known) (region : ℕ) (h : HeadingTree) (body : BodyTree) (d : Definition) (first : ℕ) → is_block body ≡ true
    → defined_in j.regions region (name_at j (heading_name h)) ≡ Some d → d.token ≡ first → awaits (is_function h) (row_at j first) ≡ true
    → completed_by j region h body ≡ Some first
found_back j region h (tree.a_directive directive) d first block is token waits = absurd (let never : false ≡ true = block in cc)
found_back j region h (tree.a_block_body b) d first block is token waits =
    ap (awaiting j (is_function h)) is
    ∙ ap (λ c. if c then Some d.token else None) (ap (λ n. awaits (is_function h) (row_at j n)) token ∙ waits)
    ∙ ap Some token

pub listed_done : (done : List RoutineTree) (s : RoutineTree) (n : ℕ) → Listed (map routine_name done) n → Listed (map routine_name (done ++ s ∷ [])) n
listed_done [] s n h = absurd h
listed_done (q ∷ qs) s n (inl e) = inl e
listed_done (q ∷ qs) s n (inr h) = inr (listed_done qs s n h)

pub listed_own : (done : List RoutineTree) (s : RoutineTree) → Listed (map routine_name (done ++ s ∷ [])) (routine_name s)
listed_own [] s = inl refl
listed_own (q ∷ qs) s = inr (listed_own qs s)

pub both_three : (a b c : Bool) → (a && b && c) ≡ true → (a ≡ true) × (b ≡ true) × (c ≡ true)
both_three true true true e = (refl, refl, refl)
both_three true true false e = absurd (let never : false ≡ true = e in cc)
both_three true false c e = absurd (let never : false ≡ true = e in cc)
both_three false b c e = absurd (let never : false ≡ true = e in cc)

three_both : (a b c : Bool) → a ≡ true → b ≡ true → c ≡ true → (a && b && c) ≡ true
three_both true true true x y z = refl
three_both false b c x y z = x
three_both true false c x y z = y
three_both true true false x y z = z

kind_same : (a b : Bool) → (if a then b else not b) ≡ true → a ≡ b
kind_same true b e = sym e
kind_same false true e = absurd (let never : false ≡ true = e in cc)
kind_same false false e = refl

same_kinds : (a b : Bool) → a ≡ b → (if a then b else not b) ≡ true
same_kinds true true e = refl
same_kinds false false e = refl
same_kinds true false e = absurd (let never : true ≡ false = e in cc)
same_kinds false true e = absurd (let never : false ≡ true = e in cc)

-- two that have one heading's block would complete the same
rivals : (k j : Known) (region : ℕ) (q r s : RoutineTree) (d : Definition) (first : ℕ) → j.words ≡ k.words → completes k q r ≡ true → completes k q s ≡ true
    → defined_in j.regions region (name_at j (routine_name r)) ≡ Some d → d.token ≡ first
    → awaits (is_function (routine_heading r)) (row_at j first) ≡ true
    → completed_by j region (routine_heading s) (routine_body s) ≡ Some first
rivals k j region q r s d first words qr qs is token waits =
    let a = both_three (is_block (routine_body r)) (same_kind (routine_heading q) (routine_heading r))
    (nat_eq (name_at k (routine_name q)) (name_at k (routine_name r))) qr in
    let b = both_three (is_block (routine_body s)) (same_kind (routine_heading q) (routine_heading s))
    (nat_eq (name_at k (routine_name q)) (name_at k (routine_name s))) qs in
    let function = is_function (routine_heading q) in
    let kind : is_function (routine_heading s) ≡ is_function (routine_heading r)
    = sym (kind_same function (is_function (routine_heading s)) b.1) ∙ kind_same function (is_function (routine_heading r)) a.1 in
    let one : name_at k (routine_name s) ≡ name_at k (routine_name r)
    = sym (eqb-true (name_at k (routine_name q)) (name_at k (routine_name s)) b.2) ∙ eqb-true (name_at k (routine_name q)) (name_at k (routine_name r)) a.2 in
    let here = spelled_as k j (routine_name s) words ∙ one ∙ sym (spelled_as k j (routine_name r) words) in
    found_back j region (routine_heading s) (routine_body s) d first b.0 (ap (defined_in j.regions region) here ∙ is) token
    (ap (λ f. awaits f (row_at j first)) kind ∙ waits)

-- ---- one that completes no other

pub record IsNewHere (j : Known) (region : ℕ) (s : RoutineTree) (n : ℕ) (d : Definition) : Type 0 where
  pub name : n ≡ name_at j (routine_name s)
  pub token : routine_name s ≡ d.token
  pub none : defined_in j.regions region n ≡ None

pub record IsForwardHere (k : Known) (s : RoutineTree) (i : Known) (n : ℕ) : Type 0 where
  pub at : n ≡ routine_name s
  pub row : row_at i n ≡ Row.Part (PartRow.Forward (is_function (routine_heading s)) None)
  forward : has_forward k (routine_body s) ≡ true

pub record Leaves (k : Known) (region : ℕ) (s : RoutineTree) (j i : Known) : Type 0 where
  pub definitions : (n : ℕ) (d : Definition) → defined_in i.regions region n ≡ Some d → (defined_in j.regions region n ≡ Some d) ⊎ IsNewHere j region s n d
  pub rows : (n : ℕ) → (row_at i n ≡ row_at j n) ⊎ IsForwardHere k s i n

abbrev own_of : RoutineTree → Definition
own_of s = record { def = Def.Routine (routine_name s); token = routine_name s; end = routine_name s }

when_new : (region : ℕ) (s : RoutineTree) (j : Known) (o : Option Definition) → defined_in j.regions region (name_at j (routine_name s)) ≡ o → (n : ℕ)
    (d : Definition)
    → defined_in (when (is_none o) (add_definition region (name_at j (routine_name s)) (own_of s)) j).known.regions region n ≡ Some d
    → (defined_in j.regions region n ≡ Some d) ⊎ IsNewHere j region s n d
unfolding when change give
when_new region s j (Some x) e n d found = inl found
when_new region s j None e n d found = elim (defined_either j region (name_at j (routine_name s)) (own_of s) region n d found) [
  | inl old ↦ inl old
  | inr new ↦ inr (record {
    name = new.0;
    token = ap (λ (x : Definition). x.token) new.1;
    none = ap (defined_in j.regions region) new.0 ∙ e;
  })
]

when_rows : (b : Bool) (region name : ℕ) (d : Definition) (j : Known) (n : ℕ) → row_at (when b (add_definition region name d) j).known n ≡ row_at j n
unfolding when change give
when_rows true region name d j n = refl
when_rows false region name d j n = refl

when_forward : (k : Known) (s : RoutineTree) (b : Bool) (j : Known) → (b ≡ true → has_forward k (routine_body s) ≡ true) → (n : ℕ)
    → let i = (when b (put (routine_name s) (Row.Part (PartRow.Forward (is_function (routine_heading s)) None))) j).known in
    (row_at i n ≡ row_at j n) ⊎ IsForwardHere k s i n
unfolding when change give
when_forward k s false j forward n = inl refl
when_forward k s true j forward n =
    elim (row_either j (routine_name s) n (Row.Part (PartRow.Forward (is_function (routine_heading s)) None))) [
      | inl old ↦ inl old
      | inr new ↦ inr (record { at = new.0; row = new.1; forward = forward refl })
    ]

directive_rows : (k : Known) (t : BlockTree) (s : RoutineTree) (body : BodyTree) (j : Known) → routine_body s ≡ body → Both k t j → (n : ℕ)
    → let i = (directive_in (routine_heading s) body j).known in (row_at i n ≡ row_at j n) ⊎ IsForwardHere k s i n
unfolding directed look ◌>>=◌ ask give
directive_rows k t s (tree.a_directive directive) j same both n = when_forward k s (is_forward j directive) j
    (λ e. ap (has_forward k) same ∙ sym (forward_same k j directive both.roomy) ∙ e) n
directive_rows k t s (tree.a_block_body b) j same both n = inl refl

pub leaves : (k : Known) (t : BlockTree) (region : ℕ) (s : RoutineTree) (j : Known) → Both k t j
    → Leaves k region s j (defining region (routine_heading s) (routine_body s) j).known
unfolding defining define_heading define_in look ◌>>=◌ ask
leaves k t region s j both =
    let h = routine_heading s in
    let body = routine_body s in
    let o = defined_in j.regions region (name_at j (routine_name s)) in
    let m = (define_heading region h j).known in
    let defined = (define_heading-lasts (both_last k t) region h).of j both in
    record {
      definitions = λ n d found. when_new region s j o refl n d (ap (λ rs. defined_in rs region n) (sym (directive_regions h body m)) ∙ found);
      rows = λ n. elim (directive_rows k t s body m refl defined n) [
        | inl old ↦ inl (old ∙ when_rows (is_none o) region (name_at j (routine_name s)) (own_of s) j n)
        | inr new ↦ inr new
      ];
    }

abbrev kind_of : Row → Bool
kind_of (Row.Part (PartRow.Forward function block)) = function
kind_of r = false

pub unnamed : (a : Bool) (o : Option Definition) → (a ≡ true → is_some o ≡ true) → o ≡ None → a ≡ false
unnamed false o h e = refl
unnamed true o h e = absurd (let never : false ≡ true = sym (ap is_some e) ∙ h refl in cc)

first_last : (k : Known) (done : List RoutineTree) (s r : RoutineTree) → is_named k done r ≡ false → have_one_name k s r ≡ true
    → first_token k (done ++ s ∷ []) r ≡ Some (routine_name s)
first_last k [] s r none same = ap (λ b. if b then Some (routine_name s) else None) same
first_last k (q ∷ qs) s r none same =
    let parts = or_neither (have_one_name k q r) (is_named k qs r) none in
    ap (λ b. if b then Some (routine_name q) else first_token k (qs ++ s ∷ []) r) parts.0 ∙ first_last k qs s r parts.1 same

-- a definition that was there
owner_old : (k : Known) (t : BlockTree) (region : ℕ) (names : List ℕ) (done : List RoutineTree) (s : RoutineTree) (j : Known) → Seat t done s
    → Part k t region names done j → (r : RoutineTree) (d : Definition) → defined_in j.regions region (name_at k (routine_name r)) ≡ Some d
    → Listed (map routine_name (done ++ s ∷ [])) d.token → first_token k (done ++ s ∷ []) r ≡ Some d.token
owner_old k t region names done s j seat p r d old listed = elim (listed_last done s d.token listed) [
  | inl before ↦ first_more k done s r d.token (p.owner r d old before)
  | inr own ↦ absurd (elim (p.tokens (name_at k (routine_name r)) d old) [
    | inl nobody ↦ nobody (subst (λ n. SomeAt AnyKind n t) own (seat.up AnyKind tt))
    | inr h ↦ seat.fresh (subst (Listed (map routine_name done)) (sym own) h)
  ])
]

owner_defining : (k : Known) (t : BlockTree) (region : ℕ) (names : List ℕ) (done : List RoutineTree) (s : RoutineTree) (j i : Known) → Seat t done s
    → Part k t region names done j → Leaves k region s j i → (r : RoutineTree) (d : Definition)
    → defined_in i.regions region (name_at k (routine_name r)) ≡ Some d
    → Listed (map routine_name (done ++ s ∷ [])) d.token → first_token k (done ++ s ∷ []) r ≡ Some d.token
owner_defining k t region names done s j i seat p l r d found listed = elim (l.definitions (name_at k (routine_name r)) d found) [
  | inl old ↦ owner_old k t region names done s j seat p r d old listed
  | inr new ↦
      let one : name_at k (routine_name s) ≡ name_at k (routine_name r)
      = sym (spelled_as k j (routine_name s) p.orderly.both.sound.words) ∙ sym new.name in
      first_last k done s r (unnamed (is_named k done r) (defined_in j.regions region (name_at k (routine_name r))) (p.heads r) new.none)
      (eq-eqb (name_at k (routine_name s)) (name_at k (routine_name r)) one)
      ∙ ap Some new.token
]

-- what would be completed after it
second_defining : (k : Known) (t : BlockTree) (region : ℕ) (names : List ℕ) (done : List RoutineTree) (s : RoutineTree) (j i : Known) → Seat t done s
    → Part k t region names done j → completed_by j region (routine_heading s) (routine_body s) ≡ None → Leaves k region s j i
    → Orderly k t i
    → (r : RoutineTree) (first : ℕ) → completed_by i region (routine_heading r) (routine_body r) ≡ Some first
    → is_second k (done ++ s ∷ []) r ≡ true
second_defining k t region names done s j i seat p none l after r first c =
    let f = completed_found i region (routine_heading r) (routine_body r) first c in
    let block = found_block i region (routine_heading r) (routine_body r) first c in
    let words = p.orderly.both.sound.words in
    let spelled = spelled_as k i (routine_name r) after.both.sound.words in
    let here = spelled ∙ sym (spelled_as k j (routine_name r) words) in
    elim (l.definitions (name_at i (routine_name r)) f.d f.is) [
      | inl old ↦
          let off : f.d.token ≡ routine_name s → ⊥ = λ e. elim (p.tokens (name_at i (routine_name r)) f.d old) [
            | inl nobody ↦ nobody (subst (λ n. SomeAt AnyKind n t) (sym e) (seat.up AnyKind tt))
            | inr listed ↦ seat.fresh (subst (Listed (map routine_name done)) e listed)
          ] in
          let row : row_at i first ≡ row_at j first = elim (l.rows first) [
            | inl same ↦ same
            | inr new ↦ absurd (off (f.token ∙ new.at))
          ] in
          let is : defined_in j.regions region (name_at j (routine_name r)) ≡ Some f.d = ap (defined_in j.regions region) (sym here) ∙ old in
          let waits : awaits (is_function (routine_heading r)) (row_at j first) ≡ true
          = ap (awaits (is_function (routine_heading r))) (sym row) ∙ f.waiting in
          second_more k done s r (λ q qr qs. none-some first (sym none ∙ rivals k j region q r s f.d first words qr qs is f.token waits))
          (p.second r first (found_back j region (routine_heading r) (routine_body r) f.d first block is f.token waits))
      | inr new ↦
          let waiting = awaited (is_function (routine_heading r)) (row_at i first) f.waiting in
          let some = after.marked.forward first waiting.kind None waiting.is in
          let own = seat.own (ForwardKind k waiting.kind) (subst (λ n. SomeAt (ForwardKind k waiting.kind) n t) (sym (new.token ∙ f.token)) some) in
          let kinds = awaits_kind (is_function (routine_heading r)) waiting.kind (row_at i first) waiting.is f.waiting in
          let kind : is_function (routine_heading s) ≡ is_function (routine_heading r)
          = own.1 ∙ kind_same waiting.kind (is_function (routine_heading r)) kinds in
          let one : name_at k (routine_name s) ≡ name_at k (routine_name r)
          = sym (spelled_as k j (routine_name s) words) ∙ sym new.name ∙ spelled in
          let same : have_one_name k s r ≡ true = eq-eqb (name_at k (routine_name s)) (name_at k (routine_name r)) one in
          let nobody : is_named k done r ≡ false
          = unnamed (is_named k done r) (defined_in j.regions region (name_at k (routine_name r))) (p.heads r)
          (ap (defined_in j.regions region) (sym spelled) ∙ new.none) in
          second_last k done s r nobody same own.0
          (three_both (is_block (routine_body r)) (same_kind (routine_heading s) (routine_heading r))
          (nat_eq (name_at k (routine_name s)) (name_at k (routine_name r))) block
          (same_kinds (is_function (routine_heading s)) (is_function (routine_heading r)) kind) same)
    ]

marked_defining : (k : Known) (t : BlockTree) (region : ℕ) (done : List RoutineTree) (s : RoutineTree) (j i : Known) → Seat t done s → Leaves k region s j i
    → Marked k t j → Marked k t i
marked_defining k t region done s j i seat l m = record {
  forward = λ n function block e. elim (l.rows n) [
    | inl same ↦ m.forward n function block (sym same ∙ e)
    | inr new ↦ subst (λ x. SomeAt (ForwardKind k function) x t) (sym new.at)
        (seat.up (ForwardKind k function) (new.forward, ap kind_of (sym new.row ∙ e)))
  ];
  completing = λ n first e. elim (l.rows n) [
    | inl same ↦ m.completing n first (sym same ∙ e)
    | inr new ↦ absurd (waits_row (is_function (routine_heading s)) first (sym new.row ∙ e))
  ];
}

-- that the names of some are defined, after one more is
named_more : (k j i : Known) (region : ℕ) (done : List RoutineTree) (s : RoutineTree)
    → ((n : ℕ) → is_some (defined_in j.regions region n) ≡ true → is_some (defined_in i.regions region n) ≡ true)
    → is_some (defined_in i.regions region (name_at k (routine_name s))) ≡ true
    → ((r : RoutineTree) → is_named k done r ≡ true → is_some (defined_in j.regions region (name_at k (routine_name r))) ≡ true)
    → (r : RoutineTree) → is_named k (done ++ s ∷ []) r ≡ true → is_some (defined_in i.regions region (name_at k (routine_name r))) ≡ true
named_more k j i region done s stays own named r e =
    elim (or_either (is_named k done r) (have_one_name k s r) (sym (any-last (λ q. have_one_name k q r) done s) ∙ e)) [
      | inl old ↦ stays (name_at k (routine_name r)) (named r old)
      | inr new ↦ ap (λ n. is_some (defined_in i.regions region n)) (sym (eqb-true (name_at k (routine_name s)) (name_at k (routine_name r)) new)) ∙ own
    ]

-- the definitions of a region stay
abbrev pub Stay : ℕ → (j i : Known) → Type 0
Stay region j i = (n : ℕ) (d : Definition) → defined_in j.regions region n ≡ Some d → defined_in i.regions region n ≡ Some d

some_stays : (region : ℕ) (j i : Known) → Stay region j i → (n : ℕ) (o : Option Definition) → defined_in j.regions region n ≡ o → is_some o ≡ true
    → is_some (defined_in i.regions region n) ≡ true
some_stays region j i stay n None e some = absurd (let never : false ≡ true = some in cc)
some_stays region j i stay n (Some d) e some = ap is_some (stay n d e)

turn_defining : (k : Known) (t : BlockTree) (region : ℕ) (names : List ℕ) (done : List RoutineTree) (s : RoutineTree) (j : Known) → Seat t done s
    → Part k t region names done j → completed_by j region (routine_heading s) (routine_body s) ≡ None
    → let i = (defining region (routine_heading s) (routine_body s) j).known in
    Both k t i → Stay region j i → Part k t region names (done ++ s ∷ []) i
turn_defining k t region names done s j seat p none both stay =
    let i = (defining region (routine_heading s) (routine_body s) j).known in
    let l = leaves k t region s j p.orderly.both in
    let d = defining_here region s j p.there in
    let orderly : Orderly k t i = record { both = both; marked = marked_defining k t region done s j i seat l p.orderly.marked } in
    let spelled = spelled_as k j (routine_name s) p.orderly.both.sound.words in
    let own : is_some (defined_in i.regions region (name_at k (routine_name s))) ≡ true
    = ap (λ n. is_some (defined_in i.regions region n)) (sym spelled) ∙ d.more (name_at j (routine_name s))
    ∙ ap (λ b. is_some (defined_in j.regions region (name_at j (routine_name s))) || (b || false))
    (eq-eqb (name_at j (routine_name s)) (name_at j (routine_name s)) refl)
    ∙ or_true (is_some (defined_in j.regions region (name_at j (routine_name s)))) in
    record {
      orderly = orderly;
      there = d.there;
      old = λ n h. let x = p.old n h in record { d = x.d; is = stay n x.d x.is; apart = x.apart };
      heads = named_more k j i region done s (λ n e. some_stays region j i stay n (defined_in j.regions region n) refl e) own p.heads;
      tokens = λ n x found. elim (l.definitions n x found) [
        | inl old ↦ elim (p.tokens n x old) [
          | inl nobody ↦ inl nobody
          | inr listed ↦ inr (listed_done done s x.token listed)
        ]
        | inr new ↦ inr (subst (Listed (map routine_name (done ++ s ∷ []))) new.token (listed_own done s))
      ];
      second = second_defining k t region names done s j i seat p none l orderly;
      owner = owner_defining k t region names done s j i seat p l;
    }

-- ---- one that completes another

same_first : (a b : ℕ) → Row.Part (PartRow.Completing a) ≡ Row.Part (PartRow.Completing b) → a ≡ b
same_first a b e = cc

settled_row : (function : Bool) (position : ℕ) (r : Row) → r ≡ Row.Part (PartRow.Forward function (Some position)) → (other : Bool)
    → r ≡ Row.Part (PartRow.Forward other None) → ⊥
settled_row function position r e other f = let same : Some position ≡ None = sym (ap block_in e) ∙ ap block_in f in cc

turn_completing : (k : Known) (t : BlockTree) (region position : ℕ) (names : List ℕ) (done : List RoutineTree) (s : RoutineTree) (first : ℕ) (j : Known)
    → Seat t done s → Part k t region names done j → completed_by j region (routine_heading s) (routine_body s) ≡ Some first
    → let i = with_completion j first position (is_function (routine_heading s)) (routine_name s) in
    Both k t i → Part k t region names (done ++ s ∷ []) i
turn_completing k t region position names done s first j seat p e both =
    let function = is_function (routine_heading s) in
    let name = routine_name s in
    let settled = Row.Part (PartRow.Forward function (Some position)) in
    let x = with_row j first settled in
    let i = with_completion j first position function name in
    let words = p.orderly.both.sound.words in
    let f = completed_found j region (routine_heading s) (routine_body s) first e in
    let waiting = awaited function (row_at j first) f.waiting in
    let kind : function ≡ waiting.kind
    = sym (kind_same waiting.kind function (awaits_kind function waiting.kind (row_at j first) waiting.is f.waiting)) in
    let was = p.orderly.marked.forward first waiting.kind None waiting.is in
    let listed : Listed (map routine_name done) f.d.token = elim (p.tokens (name_at j name) f.d f.is) [
      | inl nobody ↦ absurd (nobody (subst (λ n. SomeAt AnyKind n t) (sym f.token) (some_any (ForwardKind k waiting.kind) first t was)))
      | inr h ↦ h
    ] in
    let own_first : first_token k done s ≡ Some first
    = p.owner s f.d (ap (defined_in j.regions region) (sym (spelled_as k j name words)) ∙ f.is) listed ∙ ap Some f.token in
    let marked_first : Marked k t x = put_marked k t j first settled
    (λ g b same. subst (λ a. SomeAt (ForwardKind k a) first t) (sym kind ∙ ap kind_of same) was)
    (λ at same. absurd (row_completing function position at same)) p.orderly.marked in
    let marked : Marked k t i = put_marked k t x name (Row.Part (PartRow.Completing first)) (λ g b same. absurd (row_forward first g b same))
    (λ at same. subst (λ x. SomeAt (SecondOf k x) name t) (same_first first at same) (seat.up (SecondOf k first) (p.second s first e, own_first)))
    marked_first in
    let below : first < length j.program.rows = (
    let spelled = (completion_sound k t j region first s e p.orderly.both.sound).forward.spelled in
    let room = p.orderly.both.roomy.room in
    omega (arith, spelled, room)) in
    record {
      orderly = record { both = both; marked = marked };
      there = p.there;
      old = λ n h. let o = p.old n h in record { d = o.d; is = o.is; apart = o.apart };
      heads = named_more k j i region done s (λ n some. some)
          (ap (λ n. is_some (defined_in j.regions region n)) (sym (spelled_as k j name words)) ∙ ap is_some f.is) p.heads;
      tokens = λ n d found. elim (p.tokens n d found) [
        | inl nobody ↦ inl nobody
        | inr listed ↦ inr (listed_done done s d.token listed)
      ];
      second = λ r at c.
          let g = completed_found i region (routine_heading r) (routine_body r) at c in
          let block = found_block i region (routine_heading r) (routine_body r) at c in
          let waits = awaited (is_function (routine_heading r)) (row_at i at) g.waiting in
          let own : row_at i at ≡ row_at x at = elim (row_either x name at (Row.Part (PartRow.Completing first))) [
            | inl same ↦ same
            | inr new ↦ absurd (row_forward first waits.kind None (sym new.1 ∙ waits.is))
          ] in
          let other : at ≡ first → ⊥ = λ same. settled_row function position (row_at x at)
          (ap (row_at x) same ∙ row_put j first settled below) waits.kind (sym own ∙ waits.is) in
          let old : row_at x at ≡ row_at j at = elim (row_either j first at settled) [
            | inl same ↦ same
            | inr new ↦ absurd (other new.0)
          ] in
          let still : awaits (is_function (routine_heading r)) (row_at j at) ≡ true
          = ap (awaits (is_function (routine_heading r))) (sym old ∙ sym own) ∙ g.waiting in
          second_more k done s r (λ q qr qs. other (sym (same_Some first at
          (sym e ∙ rivals k j region q r s g.d at words qr qs g.is g.token still))))
          (p.second r at (found_back j region (routine_heading r) (routine_body r) g.d at block g.is g.token still));
      owner = λ r d found h. owner_old k t region names done s j seat p r d found h;
    }

-- ---- one procedure or function

turn_by : (k : Known) (t : BlockTree) (region position : ℕ) (names : List ℕ) (done : List RoutineTree) (s : RoutineTree) (j : Known) → Seat t done s
    → Part k t region names done j → (o : Option ℕ) → completed_by j region (routine_heading s) (routine_body s) ≡ o
    → let i = (complete_or_define o region position (routine_heading s) (routine_body s) j).known in
    Both k t i → Stay region j i → Part k t region names (done ++ s ∷ []) i
turn_by k t region position names done s j seat p None e both stay = turn_defining k t region names done s j seat p e both stay
turn_by k t region position names done s j seat p (Some first) e both stay =
    let same = completed first position (routine_heading s) j in
    subst (Part k t region names (done ++ s ∷ [])) (sym same)
    (turn_completing k t region position names done s first j seat p e (subst (Both k t) same both))

pub turn : (k : Known) (t : BlockTree) (region position : ℕ) (names : List ℕ) (done : List RoutineTree) (s : RoutineTree) (j : Known) → IsOfText k t s
    → Seat t done s
    → Part k t region names done j → Part k t region names (done ++ s ∷ []) (define_routine region position s j).known
unfolding define_routine look ◌>>=◌ give
turn k t region position names done s j of seat p = turn_by k t region position names done s j seat p
    (completed_by j region (routine_heading s) (routine_body s)) refl
    ((define_routine-lasts (both_last k t) region position s of).of j p.orderly.both)
    (λ n d is. (has_turn region n d position s j (record { there = p.there; is = is })).is)

told_by : (k : Known) (t : BlockTree) (region position : ℕ) (names : List ℕ) (done : List RoutineTree) (s : RoutineTree) (j : Known)
    → Part k t region names done j
    → (has_name k names (routine_name s) ≡ true) ⊎ ((is_named k done s ≡ true) × (is_second k done s ≡ false)) → (o : Option ℕ)
    → completed_by j region (routine_heading s) (routine_body s) ≡ o
    → In (broken_at 2 (routine_name s)) (complete_or_define o region position (routine_heading s) (routine_body s) j).broken
told_by k t region position names done s j p again None e =
    let spelled = spelled_as k j (routine_name s) p.orderly.both.sound.words in
    (defining_here region s j p.there).told (ap (λ n. is_some (defined_in j.regions region n)) spelled ∙ elim again [
      | inl old ↦ ap is_some (p.old (name_at k (routine_name s)) old).is
      | inr new ↦ p.heads s new.0
    ])
told_by k t region position names done s j p again (Some first) e = elim again [
  | inl old ↦
      let x = p.old (name_at k (routine_name s)) old in
      let f = completed_found j region (routine_heading s) (routine_body s) first e in
      let waiting = awaited (is_function (routine_heading s)) (row_at j first) f.waiting in
      let some = some_any (ForwardKind k waiting.kind) first t (p.orderly.marked.forward first waiting.kind None waiting.is) in
      let spelled = spelled_as k j (routine_name s) p.orderly.both.sound.words in
      let same : x.d ≡ f.d = same_Some x.d f.d (sym x.is ∙ ap (defined_in j.regions region) (sym spelled) ∙ f.is) in
      absurd (x.apart (subst (λ n. SomeAt AnyKind n t) (sym (ap (λ (d : Definition). d.token) same ∙ f.token)) some))
  | inr new ↦ absurd (let never : false ≡ true = sym new.1 ∙ p.second s first e in cc)
]

told_here : (k : Known) (t : BlockTree) (region position : ℕ) (names : List ℕ) (done : List RoutineTree) (s : RoutineTree) (j : Known)
    → Part k t region names done j
    → (has_name k names (routine_name s) ≡ true) ⊎ ((is_named k done s ≡ true) × (is_second k done s ≡ false))
    → In (broken_at 2 (routine_name s)) (define_routine region position s j).broken
unfolding define_routine look ◌>>=◌ give
told_here k t region position names done s j p again =
    let o = completed_by j region (routine_heading s) (routine_body s) in
    in_left (broken_at 2 (routine_name s)) (complete_or_define o region position (routine_heading s) (routine_body s) j).broken []
    (told_by k t region position names done s j p again o refl)

-- ---- a part

pub seat_of : (t : BlockTree) (before : List RoutineTree) (r : RoutineTree) → SeatsOf t before r → Seat t before r
seat_of t before (tree.a_routine heading semicolon body last_semicolon) s = s.0

each_kept : (k : Known) (t : BlockTree) (region position : ℕ) (names : List ℕ) (done : List RoutineTree) (rs : RoutineTrees) (j : Known)
    → Each (IsOfText k t) (routines_in rs) → SeatsIn t done rs → Part k t region names done j
    → Orderly k t (define_each_routine region position rs j).known
unfolding ◌>>=◌ give
each_kept k t region position names done tree.end_of_routines j all seats p = p.orderly
each_kept k t region position names done (tree.more_routines r rest) j all seats p =
    let d = define_routine region position r j in
    each_kept k t region d.value names (done ++ r ∷ []) rest d.known all.1 seats.1
    (turn k t region position names done r j all.0 (seat_of t done r seats.0) p)

-- This one has the name of one before it, and not the block of that.
pub record Again (k : Known) (names : List ℕ) (before : List RoutineTree) (r : RoutineTree) : Type 0 where
  pub is : (has_name k names (routine_name r) ≡ true) ⊎ ((is_named k before r ≡ true) × (is_second k before r ≡ false))

each_told : (k : Known) (t : BlockTree) (region position : ℕ) (names : List ℕ) (done : List RoutineTree) (rs : RoutineTrees) (j : Known)
    → Each (IsOfText k t) (routines_in rs) → SeatsIn t done rs → Part k t region names done j
    → (before : List RoutineTree) (r : RoutineTree) (after : List RoutineTree) → routines_in rs ≡ before ++ r ∷ after
    → Again k names (done ++ before) r → In (broken_at 2 (routine_name r)) (define_each_routine region position rs j).broken
unfolding ◌>>=◌
each_told k t region position names done tree.end_of_routines j all seats p before r after same again = absurd (nothing before r after same)
  where
    nothing : (before : List RoutineTree) (r : RoutineTree) (after : List RoutineTree) → [] ≡ before ++ r ∷ after → ⊥
    nothing [] r after e = cc
    nothing (y ∷ ys) r after e = cc
each_told k t region position names done (tree.more_routines s rest) j all seats p [] r after same again =
    let at : s ≡ r = cc in
    let d = define_routine region position s j in
    let own : Again k names done s
    = subst (λ l. Again k names l s) (append-nil done) (subst (λ q. Again k names (done ++ []) q) (sym at) again) in
    in_left (broken_at 2 (routine_name r)) d.broken _
    (subst (λ q. In (broken_at 2 (routine_name q)) d.broken) at (told_here k t region position names done s j p own.is))
each_told k t region position names done (tree.more_routines s rest) j all seats p (y ∷ ys) r after same again =
    let at : s ≡ y = cc in
    let more : routines_in rest ≡ ys ++ r ∷ after = cc in
    let d = define_routine region position s j in
    let listed : done ++ y ∷ ys ≡ (done ++ s ∷ []) ++ ys
    = ap (λ q. done ++ q ∷ ys) (sym at) ∙ sym (append_assoc done (s ∷ []) ys) in
    in_right (broken_at 2 (routine_name r)) d.broken _ (each_told k t region d.value names (done ++ s ∷ []) rest d.known all.1 seats.1
    (turn k t region position names done s j all.0 (seat_of t done s seats.0) p) ys r after more (subst (λ l. Again k names l r) listed again))

pub part_kept : (k : Known) (t : BlockTree) (region : ℕ) (names : List ℕ) (rs : RoutineTrees) (j : Known) → Each (IsOfText k t) (routines_in rs)
    → SeatsIn t [] rs → Part k t region names [] j → Orderly k t (define_routines region rs j).known
unfolding ◌>>=◌
part_kept k t region names rs j all seats p = (have_blocks-lasts {I = Orderly k t} rs).of (define_each_routine region 0 rs j).known
    (each_kept k t region 0 names [] rs j all seats p)

pub part_again : (k : Known) (t : BlockTree) (region : ℕ) (names : List ℕ) (rs : RoutineTrees) (j : Known) → Each (IsOfText k t) (routines_in rs)
    → SeatsIn t [] rs → Part k t region names [] j
    → (before : List RoutineTree) (r : RoutineTree) (after : List RoutineTree) → routines_in rs ≡ before ++ r ∷ after
    → Again k names before r → In (broken_at 2 (routine_name r)) (define_routines region rs j).broken
unfolding ◌>>=◌
part_again k t region names rs j all seats p before r after same again =
    in_left (broken_at 2 (routine_name r)) (define_each_routine region 0 rs j).broken _
    (each_told k t region 0 names [] rs j all seats p before r after same again)

-- ---- where a part begins

-- none of the text's procedures and functions is defined in a region
abbrev pub Clean : BlockTree → ℕ → Known → Type 0
Clean t region j = (n : ℕ) (d : Definition) → defined_in j.regions region n ≡ Some d → Nobody t d.token

-- the region has names that were defined since it was so
pub part_begun : (k : Known) (t : BlockTree) (p : Region) (names : List ℕ) (j : Known) → p.k.words ≡ k.words
    → Clean t p.region p.k → Each (Nobody t) names → Turn p names j → Orderly k t j → Part k t p.region names [] j
part_begun k t p names j words clean nobody turned s = record {
  orderly = s;
  there = turned.there;
  old = λ n h. held n (defined_in j.regions p.region n) refl
      (turned.names n ∙ ap (λ x. is_some (defined_in p.k.regions p.region n) || x) (same n ∙ h) ∙ or_true (is_some (defined_in p.k.regions p.region n)));
  heads = λ r e. absurd (let never : false ≡ true = e in cc);
  tokens = λ n d found. inl (apart n d found);
  second = λ r first e.
      let f = completed_found j p.region (routine_heading r) (routine_body r) first e in
      let waiting = awaited (is_function (routine_heading r)) (row_at j first) f.waiting in
      let some = some_any (ForwardKind k waiting.kind) first t (s.marked.forward first waiting.kind None waiting.is) in
      absurd (apart (name_at j (routine_name r)) f.d f.is (subst (λ n. SomeAt AnyKind n t) (sym f.token) some));
  owner = λ r d found listed. absurd listed;
}
  where
    same : (n : ℕ) → named p.k names n ≡ named k names n
    same n = ap (λ ws. named (record k { words = ws }) names n) words

    apart : (n : ℕ) (d : Definition) → defined_in j.regions p.region n ≡ Some d → Nobody t d.token
    apart n d found = elim (turned.tokens n d found) [
      | inl old ↦ clean n d old
      | inr listed ↦ each_at (Nobody t) names nobody d.token listed
    ]

    held : (n : ℕ) (o : Option Definition) → defined_in j.regions p.region n ≡ o → is_some (defined_in j.regions p.region n) ≡ true
        → Earlier t p.region n j
    held n None e some = absurd (let never : false ≡ true = sym (ap is_some e) ∙ some in cc)
    held n (Some d) e some = record { d = d; is = e; apart = apart n d e }
