-- The forward headings of a text's parts.
use Rattle.std.proofs.Common.{if◌then◌else◌, ◌&&◌, ◌++◌, ◌+◌, ◌<◌, ◌||◌, ◌∙◌, ◌∷◌, ◌≡◌, ◌≤◌, ◌⊎◌, [], ℕ, Bool, List, None, Option, Some, ap, arith, false, inl}
use Rattle.std.proofs.Common.{inr, length, length-set, nat_eq, not, refl, replicate, subst, suc, sym, true, zero}
use Rattle.std.proofs.lemmas.{Bool.Decides.nat_tests, List.length-map, Option.none-some}
use Rattle.pas_lexer.specs.Lexed.{Lexed}
use Rattle.pas_tree.specs.{HeadingPlaces.heading_name, HeadingTrees.HeadingTree}
use Rattle.pas_tree.specs.BlockTrees.{BlockTree, BodyTree, RoutineTree, RoutineTrees, routine_body, routine_heading}
use Rattle.pas_tree.specs.BlockTrees as tree
use Rattle.pas_tree.specs.HeadingTrees as headings
use Rattle.pas_tree.specs.TreeNodes.{block_node, heading_node, routine_node, routines_node}
use Rattle.core_program.specs.declared.rows.{NameRow.NameRow, PartRow.PartRow, Row.Row, TypeRow.TypeRow}
use Rattle.check_steps.specs.{Words.known_at_start, Words.names_of, Words.required_names, Words.word_of, declared.words.SpelledToken.SpelledToken}
use Rattle.check_steps.specs.Known.{Known, frame_at, name_at, row_at, with_row}
use Rattle.check_steps.specs.Steps.{◌>>=◌, Step, ask, change, each, give, look, put, when}
use Rattle.denoter_checker.specs.{Formals.is_function, RoutineParts.is_forward, RoutineParts.is_waiting, RoutineParts.routine_name}
use Rattle.denoter_checker.specs.RoutineParts.{awaits, complete_or_define, completed_by, define_heading, define_routine, define_routines, defining, directed}
use Rattle.decl_checker.specs.{Blocks.define_block, Routines.define_body, Routines.define_inside}
use Rattle.rule_laws.proofs.{Breaks.Each, Breaks.In, Breaks.in_right, Gives.Gives, Gives.gives_first, Gives.gives_then, Keeping.Closed, Keeping.look-keeps}
use Rattle.rule_laws.proofs.{Keeping.turn-keeps, Lasting.Declaring, Lasting.Lasting, LastsFormals.define_formals_at-lasts, LastsLabels.define_labels-lasts}
use Rattle.rule_laws.proofs.{LastsRoutines.block_each, PartLaw.each_known, PartLaw.waits_told, PartSteps.part_listed, PartSteps.part_steps, Tables.row_beside}
use Rattle.rule_laws.proofs.{Tables.row_put, TextFields.IsTold, TextFields.Text, TextNames.start_sound}
use Rattle.rule_laws.proofs.LastsBlocks.{define_constants-lasts, define_types-lasts, define_variables-lasts}
use Rattle.rule_laws.proofs.LastsRoutineParts.{define_heading-lasts, define_routine-lasts}
use Rattle.rule_laws.proofs.TextHeadings.{IsOfText, Sound, completed_found, completion_sound, sound_all, sound_lasts}
use Rattle.rule_laws.specs.{Laws.broken_at, NameLaws.block_routines, TextParts.OfBody, TextParts.OfRoutines, Tokens.Has, Tokens.IsDistinct}
use Rattle.rule_laws.specs.ForwardHeadings.{are_completing, completes, has_forward, is_block, routines_in, same_kind}
use Rattle.rule_laws.specs.TextLaws.{ForwardsAreTold, routines_in_body}

-- ---- what is known of a text's tokens wherever its declarations are looked at

-- Each token has its word, its name and a row.
pub record Roomy (k j : Known) : Type 0 where
  pub words : j.words ≡ k.words
  pub names : j.names ≡ k.names
  pub room : length k.words ≤ length j.program.rows

put_roomy : (k j : Known) (m : ℕ) (r : Row) → Roomy k j → Roomy k (with_row j m r)
put_roomy k j m r s = record {
  words = s.words;
  names = s.names;
  room = subst (λ size. length k.words ≤ size) (sym (length-set j.program.rows m r)) s.room;
}

pub roomy_lasts : (k : Known) (b : BlockTree) → Lasting (IsOfText k b) (Roomy k)
roomy_lasts k b = record {
  puts = λ j m r quiet s. put_roomy k j m r s;
  stays = λ j m s. put_roomy k j m (row_at j m) s;
  bodies = λ j n r same s. record { words = s.words; names = s.names; room = s.room };
  routines = λ j r s. record { words = s.words; names = s.names; room = s.room };
  frames = λ j f s. record { words = s.words; names = s.names; room = s.room };
  regions = λ j token f s. record { words = s.words; names = s.names; room = s.room };
  defines = λ j region d at s. record { words = s.words; names = s.names; room = s.room };
  requires = λ j name d behind s. record { words = s.words; names = s.names; room = s.room };
  chooses = λ j list value s. record { words = s.words; names = s.names; room = s.room };
  records = λ j word packed region cells variants fresh s. put_roomy k j word (Row.Type (TypeRow.Record packed region cells variants)) s;
  waits = λ j r g none s. put_roomy k j (routine_name r) (Row.Part (PartRow.Forward (is_function (routine_heading r)) None)) s;
  completes = λ j region first position r g e s.
      let row = Row.Part (PartRow.Forward (is_function (routine_heading r)) (Some position)) in
      put_roomy k (with_row j first row) (routine_name r) (Row.Part (PartRow.Completing first)) (put_roomy k j first row s);
}

pub record Both (k : Known) (b : BlockTree) (j : Known) : Type 0 where
  pub sound : Sound k b j
  pub roomy : Roomy k j

pub both_last : (k : Known) (b : BlockTree) → Lasting (IsOfText k b) (Both k b)
both_last k b =
    let c = sound_lasts k b in
    let e = roomy_lasts k b in
    record {
      puts = λ j m r quiet s. record { sound = c.puts j m r quiet s.sound; roomy = e.puts j m r quiet s.roomy };
      stays = λ j m s. record { sound = c.stays j m s.sound; roomy = e.stays j m s.roomy };
      bodies = λ j n r same s. record { sound = c.bodies j n r same s.sound; roomy = e.bodies j n r same s.roomy };
      routines = λ j r s. record { sound = c.routines j r s.sound; roomy = e.routines j r s.roomy };
      frames = λ j f s. record { sound = c.frames j f s.sound; roomy = e.frames j f s.roomy };
      regions = λ j token f s. record { sound = c.regions j token f s.sound; roomy = e.regions j token f s.roomy };
      defines = λ j region d at s. record { sound = c.defines j region d at s.sound; roomy = e.defines j region d at s.roomy };
      requires = λ j name d behind s. record { sound = c.requires j name d behind s.sound; roomy = e.requires j name d behind s.roomy };
      chooses = λ j list value s. record { sound = c.chooses j list value s.sound; roomy = e.chooses j list value s.roomy };
      records = λ j word packed region cells variants fresh s. record {
        sound = c.records j word packed region cells variants (record {
          before = fresh.before;
          held = fresh.held.sound;
          opened = fresh.opened;
          there = fresh.there;
          none = fresh.none;
        }) s.sound;
        roomy = e.records j word packed region cells variants (record {
          before = fresh.before;
          held = fresh.held.roomy;
          opened = fresh.opened;
          there = fresh.there;
          none = fresh.none;
        }) s.roomy;
      };
      waits = λ j r g none s. record { sound = c.waits j r g none s.sound; roomy = e.waits j r g none s.roomy };
      completes = λ j region first position r g f s. record {
        sound = c.completes j region first position r g f s.sound;
        roomy = e.completes j region first position r g f s.roomy;
      };
    }

pub both_all : (k : Known) (b : BlockTree) → Declaring (IsOfText k b) (Both k b)
both_all k b =
    let c = sound_all k b in
    record {
      kept = both_last k b;
      ends = λ j region d s. record {
        sound = c.ends j region d s.sound;
        roomy = record { words = s.roomy.words; names = s.roomy.names; room = s.roomy.room };
      };
      declares = λ j region value token s. record {
        sound = c.declares j region value token s.sound;
        roomy = record { words = s.roomy.words; names = s.roomy.names; room = s.roomy.room };
      };
      labels = λ j token value level s. record {
        sound = c.labels j token value level s.sound;
        roomy = put_roomy k j token (Row.Name (NameRow.Label false value level 0)) s.roomy;
      };
      heads = λ j name number region named few s. record {
        sound = c.heads j name number region named few s.sound;
        roomy = put_roomy k j name (Row.Name (NameRow.Routine false number region)) s.roomy;
      };
    }

-- ---- a heading waits from its own turn on

-- a forward heading of this kind waits at this token
abbrev pub Waits : ℕ → Bool → Known → Type 0
Waits n function j = row_at j n ≡ Row.Part (PartRow.Forward function None)

waits_closed : (region n : ℕ) (function : Bool) → Closed region n (Waits n function)
waits_closed region n function = record {
  puts = λ j m r apart i. row_beside j m n r (λ e. apart (sym e)) ∙ i;
  defines = λ j d apart none i. i;
}

when_put : (b : Bool) (n : ℕ) (r : Row) (j : Known) → b ≡ true → n < length j.program.rows → row_at (when b (put n r) j).known n ≡ r
unfolding when change give
when_put true n r j e below = row_put j n r below
when_put false n r j e below = absurd (let never : false ≡ true = e in cc)

pub forward_same : (k j : Known) (directive : ℕ) → Roomy k j → is_forward j directive ≡ is_forward k directive
forward_same k j directive s =
    ap (λ (ws : List SpelledToken). is_forward (record j { words = ws }) directive) s.words
    ∙ ap (λ names. is_forward (record k { names = names }) directive) s.names

-- its own turn
directive_waits : (k : Known) (h : HeadingTree) (directive : ℕ) (j : Known) → Roomy k j → is_forward k directive ≡ true → heading_name h < length k.words
    → Waits (heading_name h) (is_function h) (directed h directive j).known
unfolding directed look ◌>>=◌ ask
directive_waits k h directive j s forward spelled =
    when_put (is_forward j directive) (heading_name h) (Row.Part (PartRow.Forward (is_function h) None)) j (forward_same k j directive s ∙ forward)
    (let room = s.room in omega (arith, spelled, room))

pub defining_waits : (k : Known) (t : BlockTree) (region : ℕ) (h : HeadingTree) (body : BodyTree) (j : Known) → Roomy k j → has_forward k body ≡ true
    → heading_name h < length k.words → Waits (heading_name h) (is_function h) (defining region h body j).known
unfolding defining ◌>>=◌
defining_waits k t region h (tree.a_directive directive) j s forward spelled =
    directive_waits k h directive (define_heading region h j).known ((define_heading-lasts (roomy_lasts k t) region h).of j s) forward spelled
defining_waits k t region h (tree.a_block_body b) j s forward spelled = absurd (let never : false ≡ true = forward in cc)

never_found : (j : Known) (region : ℕ) (h : HeadingTree) (k : Known) (body : BodyTree) → has_forward k body ≡ true → completed_by j region h body ≡ None
never_found j region h k (tree.a_directive directive) forward = refl
never_found j region h k (tree.a_block_body b) forward = absurd (let never : false ≡ true = forward in cc)

own_waits : (k : Known) (t : BlockTree) (region position : ℕ) (r : RoutineTree) (j : Known) → Roomy k j → has_forward k (routine_body r) ≡ true
    → routine_name r < length k.words → Waits (routine_name r) (is_function (routine_heading r)) (define_routine region position r j).known
unfolding define_routine look give ◌>>=◌
own_waits k t region position r j s forward spelled =
    let h = routine_heading r in
    let body = routine_body r in
    subst (λ (o : Option ℕ). Waits (routine_name r) (is_function h) (complete_or_define o region position h body j).known)
    (sym (never_found j region h k body forward)) (defining_waits k t region h body j s forward spelled)

-- ---- and on, unless a block of its name and kind comes

pub awaits_kind : (function forward : Bool) (row : Row) → row ≡ Row.Part (PartRow.Forward forward None) → awaits function row ≡ true
    → (if forward then function else not function) ≡ true
awaits_kind function forward row e is = ap (awaits function) (sym e) ∙ is

pub found_block : (j : Known) (region : ℕ) (h : HeadingTree) (body : BodyTree) (first : ℕ) → completed_by j region h body ≡ Some first → is_block body ≡ true
found_block j region h (tree.a_directive directive) first e = absurd (none-some first e)
found_block j region h (tree.a_block_body b) first e = refl

pub same_number : {a b : ℕ} → a ≡ b → nat_eq a b ≡ true
same_number h = grind (arith, nat_tests)

-- a routine that would complete it has its block
pub completing_has : (k : Known) (t : BlockTree) (j : Known) (region : ℕ) (r s : RoutineTree) → Sound k t j
    → Waits (routine_name r) (is_function (routine_heading r)) j
    → completed_by j region (routine_heading s) (routine_body s) ≡ Some (routine_name r) → completes k r s ≡ true
completing_has k t j region r s sound waits e =
    let n = routine_name r in
    let f = completed_found j region (routine_heading s) (routine_body s) n e in
    let block = found_block j region (routine_heading s) (routine_body s) n e in
    let kind = awaits_kind (is_function (routine_heading s)) (is_function (routine_heading r)) (row_at j n) waits f.waiting in
    let c = completion_sound k t j region n s e sound in
    all_three (is_block (routine_body s)) (same_kind (routine_heading r) (routine_heading s)) (nat_eq (name_at k n) (name_at k (routine_name s))) block kind
    (same_number c.same)
  where
    all_three : (a b c : Bool) → a ≡ true → b ≡ true → c ≡ true → (a && b && c) ≡ true
    all_three true true true x y z = refl
    all_three false b c x y z = x
    all_three true false c x y z = y
    all_three true true false x y z = z

or_false : (a b : Bool) → (a || b) ≡ false → (a ≡ false) × (b ≡ false)
or_false false b e = (refl, e)
or_false true b e = absurd (let never : true ≡ false = e in cc)

others_wait : (k : Known) (t : BlockTree) (region position : ℕ) (r : RoutineTree) (after : List RoutineTree) (j : Known) → Both k t j
    → Waits (routine_name r) (is_function (routine_heading r)) j → Each (IsOfText k t) after
    → Each (λ (s : RoutineTree). routine_name s ≡ routine_name r → ⊥) after → are_completing k r after ≡ false
    → Waits (routine_name r) (is_function (routine_heading r)) (each (define_routine region) position after j).known
unfolding ◌>>=◌ give
others_wait k t region position r [] j both waits all apart none = waits
others_wait k t region position r (s ∷ ss) j both waits all apart none =
    let d = define_routine region position s j in
    let parts = or_false (completes k r s) (are_completing k r ss) none in
    let n = routine_name r in
    let never : completed_by j region (routine_heading s) (routine_body s) ≡ Some n → ⊥ = λ e.
    let is = completing_has k t j region r s both.sound waits e in
    absurd (let no : true ≡ false = sym is ∙ parts.0 in cc) in
    others_wait k t region d.value r ss d.known ((define_routine-lasts (both_last k t) region position s all.0).of j both)
    (turn-keeps (waits_closed region n (is_function (routine_heading r))) position s apart.0 j never waits) all.1 apart.1 parts.1

-- ---- a part

-- no two of these have their names at one token
abbrev pub Apart : List RoutineTree → Type 0
Apart [] = Unit {0}
Apart (r ∷ rs) = Each (λ (s : RoutineTree). routine_name s ≡ routine_name r → ⊥) rs × Apart rs

apart_after : (before : List RoutineTree) (r : RoutineTree) (after : List RoutineTree) → Apart (before ++ r ∷ after)
    → Each (λ (s : RoutineTree). routine_name s ≡ routine_name r → ⊥) after
apart_after [] r after a = a.0
apart_after (x ∷ xs) r after a = apart_after xs r after a.1

before_last : (k : Known) (t : BlockTree) (region position : ℕ) (rs : List RoutineTree) (j : Known) → Each (IsOfText k t) rs → Both k t j
    → Both k t (each (define_routine region) position rs j).known
unfolding ◌>>=◌ give
before_last k t region position [] j all both = both
before_last k t region position (r ∷ rs) j all both =
    let d = define_routine region position r j in
    before_last k t region d.value rs d.known all.1 ((define_routine-lasts (both_last k t) region position r all.0).of j both)

each_left : (P : RoutineTree → Type 0) (xs ys : List RoutineTree) → Each P (xs ++ ys) → Each P xs
each_left P [] ys h = tt
each_left P (x ∷ xs) ys h = (h.0, each_left P xs ys h.1)

each_right : (P : RoutineTree → Type 0) (xs ys : List RoutineTree) → Each P (xs ++ ys) → Each P ys
each_right P [] ys h = h
each_right P (x ∷ xs) ys h = each_right P xs ys h.1

heading_told : (k : Known) (t : BlockTree) (region : ℕ) (before : List RoutineTree) (r : RoutineTree) (after : List RoutineTree) (j : Known)
    → Both k t j → Each (IsOfText k t) (before ++ r ∷ after) → Apart (before ++ r ∷ after) → has_forward k (routine_body r) ≡ true
    → are_completing k r after ≡ false → In (broken_at 8 (routine_name r)) (part_steps region (before ++ r ∷ after) j).broken
unfolding ◌>>=◌
heading_told k t region before r after j both all apart forward none =
    let n = routine_name r in
    let function = is_function (routine_heading r) in
    let b = each (define_routine region) 0 before j in
    let d = define_routine region b.value r b.known in
    let whole = each (define_routine region) 0 (before ++ r ∷ after) j in
    let rest = each_right (IsOfText k t) before (r ∷ after) all in
    let start = before_last k t region 0 before j (each_left (IsOfText k t) before (r ∷ after) all) both in
    let waits = own_waits k t region b.value r b.known start.roomy forward rest.0.spelled in
    let still = others_wait k t region d.value r after d.known ((define_routine-lasts (both_last k t) region b.value r rest.0).of b.known start) waits rest.1
    (apart_after before r after apart) none in
    let known = each_known (define_routine region) 0 before (r ∷ after) j in
    let last : is_waiting (row_at whole.known n) ≡ true
    = ap (λ (i : Known). is_waiting (row_at i n)) known ∙ ap is_waiting still in
    in_right (broken_at 8 n) whole.broken _ (waits_told before r after whole.known last)

-- ---- the part of a block

told_or : (b : Bool) {X : Type 0} → (b ≡ false → X) → X ⊎ (b ≡ true)
told_or true h = inr refl
told_or false h = inl (h refl)

part_gives : (x : Text) (t : BlockTree) (region : ℕ) (rs : RoutineTrees) → Each (IsOfText x.k t) (routines_in rs) → Apart (routines_in rs)
    → Gives (Both x.k t) (IsTold x) (define_routines region rs) (ForwardsAreTold x.k x.bs (routines_in rs))
part_gives x t region rs all apart = record {
  of = λ j i w before r after same forward.
      let b = broken_at 8 (routine_name r) in
      told_or (are_completing x.k r after) (λ none. w b
      (subst (λ (m : Step (Unit {0})). In b (m j).broken) (sym (part_listed region rs ∙ ap (part_steps region) same))
      (heading_told x.k t region before r after j i (subst (Each (IsOfText x.k t)) same all) (subst Apart same apart) forward none)));
}

pub block_gives : (x : Text) (t : BlockTree) (frame : ℕ) (b : BlockTree) → OfRoutines (IsOfText x.k t) b → Apart (block_routines b)
    → Gives (Both x.k t) (IsTold x) (define_block frame b) (ForwardsAreTold x.k x.bs (block_routines b))
block_gives x t frame (tree.a_block labels consts kinds variable_part routines body) all apart =
    let c = both_last x.k t in
    let listed = block_each (IsOfText x.k t) (tree.a_block labels consts kinds variable_part routines body) all in
    gives_then (look-keeps (λ k. frame_at k frame)) (λ here. gives_then (define_labels-lasts (both_all x.k t) here labels) (λ _.
    gives_then (define_constants-lasts (both_all x.k t).ends here.region consts) (λ _.
    gives_then (define_types-lasts c (both_all x.k t).ends here.region kinds) (λ _.
    gives_then (define_variables-lasts c here.region variable_part) (λ _. part_gives x t here.region routines listed apart)))))

-- ---- the names of a part are different tokens

pub name_has : (h : HeadingTree) → Has (heading_node h) (heading_name h)
name_has (headings.a_procedure (headings.procedure_heading word name formals)) = inr (inl refl)
name_has (headings.a_function (headings.function_heading word name formals result)) = inr (inl refl)

pub routine_has : (r : RoutineTree) → Has (routine_node r) (routine_name r)
routine_has (tree.a_routine heading semicolon body last_semicolon) = inl (name_has heading)

apart_from : (n : ℕ) (rs : RoutineTrees) → (Has (routines_node rs) n → ⊥) → Each (λ (s : RoutineTree). routine_name s ≡ n → ⊥) (routines_in rs)
apart_from n tree.end_of_routines off = tt
apart_from n (tree.more_routines r rest) off =
    ((λ e. off (inl (subst (Has (routine_node r)) e (routine_has r)))), apart_from n rest (λ h. off (inr h)))

pub part_apart : (rs : RoutineTrees) → IsDistinct (routines_node rs) → Apart (routines_in rs)
part_apart tree.end_of_routines d = tt
part_apart (tree.more_routines r rest) d =
    (apart_from (routine_name r) rest (λ h. d.2 (routine_name r) (routine_has r) h), part_apart rest d.1)

pub block_apart : (b : BlockTree) → IsDistinct (block_node b) → Apart (block_routines b)
block_apart (tree.a_block labels constants types variables routines body) d = part_apart routines d.1.1.1.1.0

-- ---- procedures and functions

pub body_gives : (x : Text) (t : BlockTree) (frame : ℕ) (body : BodyTree) → OfBody (IsOfText x.k t) body → Apart (routines_in_body body)
    → Gives (Both x.k t) (IsTold x) (define_body frame body) (ForwardsAreTold x.k x.bs (routines_in_body body))
body_gives x t frame (tree.a_directive directive) all apart = record { of = λ j i w before r after same forward. absurd (no_routine before r after same) }
  where
    no_routine : (before : List RoutineTree) (r : RoutineTree) (after : List RoutineTree) → [] ≡ before ++ r ∷ after → ⊥
    no_routine [] r after e = cc
    no_routine (y ∷ ys) r after e = cc
body_gives x t frame (tree.a_block_body b) all apart = block_gives x t frame b all apart

pub inside_gives : (x : Text) (t : BlockTree) (inner : ℕ) (h : HeadingTree) (body : BodyTree) (completion : Option RoutineTree) → OfBody (IsOfText x.k t) body
    → Apart (routines_in_body body)
    → Gives (Both x.k t) (IsTold x) (define_inside inner h body completion) (ForwardsAreTold x.k x.bs (routines_in_body body))
unfolding define_inside
inside_gives x t inner h body completion all apart =
    gives_then (define_formals_at-lasts (both_last x.k t) inner h) (λ _. gives_first _ (body_gives x t inner body all apart))

-- ---- a text

length_blank : (n : ℕ) (r : Row) → length (replicate n r) ≡ n
length_blank zero r = refl
length_blank (suc n) r = ap suc (length_blank n r)

pub start_both : (l : Lexed) (b : BlockTree) → Both (known_at_start l) b (known_at_start l)
start_both l b = record {
  sound = start_sound l b;
  roomy = record {
    words = refl;
    names = refl;
    room =
        let words : length (known_at_start l).words ≡ length l.tokens = length-map l.tokens (word_of (names_of l) l.source) in
        let rows : length (known_at_start l).program.rows ≡ length l.tokens + length required_names
        = length_blank (length l.tokens + length required_names) Row.Nothing in
        omega (arith, words, rows);
  };
}
