-- Where a text breaks rule 8: at its forward headings that are not completed alone.
use Rattle.std.proofs.Common.{if◌then◌else◌, ◌++◌, ◌+◌, ◌<◌, ◌∙◌, ◌∷◌, ◌≡◌, ◌≤◌, ◌⊎◌, [], ℕ, Bool, Contains, List, None, Option, Some, ap, arith, cond, false}
use Rattle.std.proofs.Common.{inl, inr, is_none, length, length-set, nat_eq, not, refl, replicate, slice_get, subst, suc, sym, true, unwrap_or, zero}
use Rattle.std.proofs.lemmas.{Bool.Decides.nat_tests, List.length-map}
use Rattle.pas_lexer.specs.Lexed.{Lexed}
use Rattle.pas_tree.specs.{DenoterTrees.FieldsTree, HeadingPlaces.heading_name, HeadingTrees.HeadingTree}
use Rattle.pas_tree.specs.BlockTrees.{BlockTree, BodyTree, ConstantPartTree, LabelPartTree, ProgramTree, RoutineTree, RoutineTrees, TypePartTree}
use Rattle.pas_tree.specs.BlockTrees.{VariablePartTree, routine_body, routine_heading}
use Rattle.pas_tree.specs.BlockTrees as tree
use Rattle.pas_tree.specs.TreeNodes.{block_node, body_node, heading_node, routine_node, routines_node}
use Rattle.core_program.specs.declared.rows.{NameRow.NameRow, PartRow.PartRow, Row.Row, TypeRow.TypeRow}
use Rattle.check_steps.specs.{Names.define_in, Regions.defined_in, Regions.or_else, declared.regions.Definition.Definition, declared.regions.Frame.Frame}
use Rattle.check_steps.specs.Known.{Known, and_definition, and_region, frame_at, name_at, row_at, with_row}
use Rattle.check_steps.specs.Steps.{◌>>=◌, Done, Step, add_definition, ask, change, each, give, look, put, when}
use Rattle.check_steps.specs.Words.{known_at_start, names_of, required_names, word_of}
use Rattle.check_steps.specs.declared.breaks.{Break.Break, Broken.Broken, Broken.TheVariants.Early}
use Rattle.denoter_checker.specs.Formals.{is_complete, is_function}
use Rattle.denoter_checker.specs.RoutineParts.{complete_or_define, completed_by, define_heading, define_routine, define_routines, defining, directed}
use Rattle.denoter_checker.specs.RoutineParts.{directive_in, has_block, is_forward, is_waiting, routine_name}
use Rattle.decl_checker.specs.{Blocks.define_block, Blocks.define_constants, Blocks.define_types, Blocks.define_variables, Labels.define_labels}
use Rattle.decl_checker.specs.{Programs.define_program, Programs.program_step, Routines.define_body, Routines.define_completion, Routines.define_inside}
use Rattle.code_checker.specs.{Blocks.code_block, CheckedPrograms.broken, CheckedPrograms.check_step}
use Rattle.rule_laws.proofs.{Anything.body_all, Anything.heading_all, Anything.own_all, Faces.loose, Faces.row_either, LabelTold.Anywhere}
use Rattle.rule_laws.proofs.{LastsFormals.define_formals_at-lasts, LastsLabels.define_labels-lasts, LastsParameters.program_parameters-lasts}
use Rattle.rule_laws.proofs.{PartLaw.each_broken, PartLaw.each_known, PartLaw.turns_only, PartSteps.has_each, PartSteps.part_listed, PartSteps.part_steps}
use Rattle.rule_laws.proofs.{Plain.Aim, Plain.Plain, Plain.Solely, Plain.is_plain, Tables.defined-more, Tables.one_or_other, Tables.row_put, Telling.Allows}
use Rattle.rule_laws.proofs.{Telling.Misses, Telling.no_eight, Telling.other_rule, TextFields.Any, TextForwards.name_has, TextLabels.code_block-touches}
use Rattle.rule_laws.proofs.{TextNames.start_sound, TextNames.text_block, TextTokens.text_law, TextTokens.text_tokens, Touches.Told as Used}
use Rattle.rule_laws.proofs.Breaks.{Each, In, contained as as_told, found, in_either, in_left, in_right, of_each}
use Rattle.rule_laws.proofs.Comes.{Came, Comes, bind-comes, comes_of, give-comes, look-comes}
use Rattle.rule_laws.proofs.Entering.{Completes, Entering, Never, SeenBlock, SeenBody, SeenEach, SeenRoutine, program-came, seen_own}
use Rattle.rule_laws.proofs.Keeping.{Keeps, ask-keeps, bind-keeps, give-keeps, look-keeps}
use Rattle.rule_laws.proofs.Lasting.{Declaring, Lasting, each-lasts, is_quiet, with_completion}
use Rattle.rule_laws.proofs.LastsBlocks.{define_constants-lasts, define_types-lasts, define_variables-lasts}
use Rattle.rule_laws.proofs.LastsRoutineParts.{completed, define_heading-lasts, define_routine-lasts}
use Rattle.rule_laws.proofs.OneName.{Awaiting, Stays, directed-waits, forward_in, own_definition, stays-define, stays-put, waiting_row, waits_after}
use Rattle.rule_laws.proofs.PlainDefines.{Twice, define_constants-twice, define_formals_at-twice, define_labels-twice, define_record-twice, define_types-twice}
use Rattle.rule_laws.proofs.PlainDefines.{define_variables-twice, program_parameters-twice}
use Rattle.rule_laws.proofs.Standing.{Stands, opened, standing, standing_all, stands_at}
use Rattle.rule_laws.proofs.TextHeadings.{IsOfText, Sound, sound_all, sound_lasts, spelled_as}
use Rattle.rule_laws.specs.{Laws.LacksBlock, Laws.broken_at, NameLaws.block_routines, OnlyLaws.IsLeftForward, OnlyLaws.TextsBreakEight, SomeBlocks.SomeBlock}
use Rattle.rule_laws.specs.{SomeBlocks.SomeInside, SomeBlocks.SomeOfBody, SomeBlocks.SomeOfRoutine, TextLaws.routines_in_body, TextParts.OfBody}
use Rattle.rule_laws.specs.{TextParts.OfEach, TextParts.OfRoutine, TextParts.OfRoutines, Tokens.Has, Tokens.IsDistinct}
use Rattle.rule_laws.specs.ForwardHeadings.{are_completing, has_forward, is_block, routines_in}

-- a text, a token of it, and the rules that it breaks
pub record Looked : Type 0 where
  pub k : Known
  pub t : BlockTree
  pub bs : List Break
  pub n : ℕ

-- if its name is the token, it is forward
abbrev IsForwardThere : Looked → RoutineTree → Type 0
IsForwardThere x r = routine_name r ≡ x.n → has_forward x.k (routine_body r) ≡ true

abbrev AllForward : Looked → Type 0
AllForward x = OfRoutines (IsForwardThere x) x.t

abbrev Goal : Looked → Type 0
Goal x = SomeBlock (IsLeftForward x.k x.bs x.n) x.t

-- ---- the tables

-- Where a heading waits at the token, the one of the text with its name there is forward.
record Inside (x : Looked) (j : Known) : Type 0 where
  words : j.words ≡ x.k.words
  names : j.names ≡ x.k.names
  room : length x.k.words ≤ length j.program.rows
  sound : Sound x.k x.t j
  waits : is_waiting (row_at j x.n) ≡ true → AllForward x

never_waits : {X : Type 0} (r : Row) → is_quiet r ≡ true → is_waiting r ≡ true → X
never_waits (Row.Part (PartRow.Forward function block)) quiet waits = absurd (let no_row : false ≡ true = quiet in cc)
never_waits r quiet waits = absurd (let no_row : false ≡ true = waits in cc)

put_waits : (x : Looked) (j : Known) (m : ℕ) (r : Row) → (m ≡ x.n → is_waiting r ≡ true → AllForward x) → (is_waiting (row_at j x.n) ≡ true → AllForward x)
    → is_waiting (row_at (with_row j m r) x.n) ≡ true → AllForward x
put_waits x j m r new old e = elim (row_either j m x.n r) [
  | inl same ↦ old (ap is_waiting (sym same) ∙ e)
  | inr at ↦ new (sym at.0) (ap is_waiting (sym at.1) ∙ e)
]

same_waits : (x : Looked) (j : Known) (m : ℕ) → (is_waiting (row_at j x.n) ≡ true → AllForward x)
    → is_waiting (row_at (with_row j m (row_at j m)) x.n) ≡ true → AllForward x
same_waits x j m old e = elim (row_either j m x.n (row_at j m)) [
  | inl same ↦ old (ap is_waiting (sym same) ∙ e)
  | inr at ↦ old (ap (λ i. is_waiting (row_at j i)) at.0 ∙ ap is_waiting (sym at.1) ∙ e)
]

-- a row that is put, once it is known to be sound
put_inside : (x : Looked) (j : Known) (m : ℕ) (r : Row) → Sound x.k x.t (with_row j m r) → (is_waiting (row_at (with_row j m r) x.n) ≡ true → AllForward x)
    → Inside x j → Inside x (with_row j m r)
put_inside x j m r sound waits s = record {
  words = s.words;
  names = s.names;
  room = subst (λ size. length x.k.words ≤ size) (sym (length-set j.program.rows m r)) s.room;
  sound = sound;
  waits = waits;
}

inside_last : (x : Looked) → Lasting Never (Inside x)
inside_last x =
    let c = sound_lasts x.k x.t in
    record {
      puts = λ j m r quiet s. put_inside x j m r (c.puts j m r quiet s.sound) (put_waits x j m r (λ at. never_waits r quiet) s.waits) s;
      stays = λ j m s. put_inside x j m (row_at j m) (c.stays j m s.sound) (same_waits x j m s.waits) s;
      bodies = λ j n r same s.
          record { words = s.words; names = s.names; room = s.room; sound = c.bodies j n r same s.sound; waits = s.waits };
      routines = λ j r s. record { words = s.words; names = s.names; room = s.room; sound = c.routines j r s.sound; waits = s.waits };
      frames = λ j f s. record { words = s.words; names = s.names; room = s.room; sound = c.frames j f s.sound; waits = s.waits };
      regions = λ j token f s. record { words = s.words; names = s.names; room = s.room; sound = c.regions j token f s.sound; waits = s.waits };
      defines = λ j region d at s. record { words = s.words; names = s.names; room = s.room; sound = c.defines j region d at s.sound; waits = s.waits };
      requires = λ j name d behind s.
          record { words = s.words; names = s.names; room = s.room; sound = c.requires j name d behind s.sound; waits = s.waits };
      chooses = λ j list value s. record { words = s.words; names = s.names; room = s.room; sound = c.chooses j list value s.sound; waits = s.waits };
      records = λ j word packed region cells variants fresh s.
          let r = Row.Type (TypeRow.Record packed region cells variants) in
          put_inside x j word r (c.records j word packed region cells variants (record {
            before = fresh.before;
            held = fresh.held.sound;
            opened = fresh.opened;
            there = fresh.there;
            none = fresh.none;
          }) s.sound) (put_waits x j word r (λ at e. absurd (let no_row : false ≡ true = e in cc)) s.waits) s;
      waits = λ j r g none s. absurd g;
      completes = λ j region first position r g e s. absurd g;
    }

inside_all : (x : Looked) → Declaring Never (Inside x)
inside_all x =
    let c = sound_all x.k x.t in
    record {
      kept = inside_last x;
      ends = λ j region d s.
          record { words = s.words; names = s.names; room = s.room; sound = c.ends j region d s.sound; waits = s.waits };
      declares = λ j region value token s.
          record { words = s.words; names = s.names; room = s.room; sound = c.declares j region value token s.sound; waits = s.waits };
      labels = λ j token value level s.
          let r = Row.Name (NameRow.Label false value level 0) in
          put_inside x j token r (c.labels j token value level s.sound) (put_waits x j token r (λ at e. absurd (let no_row : false ≡ true = e in cc)) s.waits)
          s;
      heads = λ j name number region named few s.
          let r = Row.Name (NameRow.Routine false number region) in
          put_inside x j name r (c.heads j name number region named few s.sound)
          (put_waits x j name r (λ at e. absurd (let no_row : false ≡ true = e in cc)) s.waits) s;
    }

-- ---- a part with procedures and functions

-- no two of these have their names at one token
abbrev Apart : List RoutineTree → Type 0
Apart [] = Unit {0}
Apart (r ∷ rs) = Each (λ (s : RoutineTree). routine_name s ≡ routine_name r → ⊥) rs × Apart rs

-- what is known of a procedure or function of the text
record Own (x : Looked) (r : RoutineTree) : Type 0 where
  text : IsOfText x.k x.t r
  forward : routine_name r ≡ x.n → has_forward x.k (routine_body r) ≡ true → AllForward x
  back : AllForward x → IsForwardThere x r

record Part (x : Looked) (rs : List RoutineTree) : Type 0 where
  lead : (before : List RoutineTree) (r : RoutineTree) (after : List RoutineTree) → rs ≡ before ++ r ∷ after → routine_name r ≡ x.n
      → LacksBlock x.k x.bs r after → Goal x
  apart : Apart rs
  own : Each (Own x) rs

when_inside : (x : Looked) (r : RoutineTree) → Own x r → (directive : ℕ) → routine_body r ≡ tree.a_directive directive → (j : Known) → Inside x j → (b : Bool)
    → is_forward j directive ≡ b
    → Inside x (when b (put (routine_name r) (Row.Part (PartRow.Forward (is_function (routine_heading r)) None))) j).known
unfolding when change give
when_inside x r own directive body j s true e =
    let row = Row.Part (PartRow.Forward (is_function (routine_heading r)) None) in
    let forward : has_forward x.k (routine_body r) ≡ true = ap (has_forward x.k) body ∙ sym (forward_in x.k j s.words s.names directive) ∙ e in
    put_inside x j (routine_name r) row ((sound_lasts x.k x.t).waits j r own.text (ap is_block body) s.sound)
    (put_waits x j (routine_name r) row (λ at waits. own.forward at forward) s.waits) s
when_inside x r own directive body j s false e = s

directive_in-inside : (x : Looked) (r : RoutineTree) → Own x r → (body : BodyTree) → routine_body r ≡ body
    → Keeps (Inside x) (directive_in (routine_heading r) body)
unfolding directed look ask ◌>>=◌
directive_in-inside x r own (tree.a_directive directive) e = record { of = λ j s. when_inside x r own directive e j s (is_forward j directive) refl }
directive_in-inside x r own (tree.a_block_body b) e = give-keeps tt

defining-inside : (x : Looked) (region : ℕ) (r : RoutineTree) → Own x r → Keeps (Inside x) (defining region (routine_heading r) (routine_body r))
unfolding defining
defining-inside x region r own =
    bind-keeps (define_heading-lasts (inside_last x) region (routine_heading r)) (λ _. directive_in-inside x r own (routine_body r) refl)

completing_inside : (x : Looked) (region first position : ℕ) (r : RoutineTree) → Own x r → (j : Known)
    → completed_by j region (routine_heading r) (routine_body r) ≡ Some first → Inside x j
    → Inside x (with_completion j first position (is_function (routine_heading r)) (routine_name r))
completing_inside x region first position r own j e s =
    let one = Row.Part (PartRow.Forward (is_function (routine_heading r)) (Some position)) in
    let two = Row.Part (PartRow.Completing first) in
    let i = with_row j first one in
    let rows = length-set j.program.rows first one in
    let more = length-set i.program.rows (routine_name r) two in
    record {
      words = s.words;
      names = s.names;
      room = (let room = s.room in omega (arith, room, rows, more));
      sound = (sound_lasts x.k x.t).completes j region first position r own.text e s.sound;
      waits = put_waits x i (routine_name r) two (λ at f. absurd (let no_row : false ≡ true = f in cc))
          (put_waits x j first one (λ at f. absurd (let no_row : false ≡ true = f in cc)) s.waits);
    }

turn_inside : (x : Looked) (region position : ℕ) (r : RoutineTree) → Own x r → (j : Known) → Inside x j → (o : Option ℕ)
    → completed_by j region (routine_heading r) (routine_body r) ≡ o
    → Inside x (complete_or_define o region position (routine_heading r) (routine_body r) j).known
turn_inside x region position r own j s None e = (defining-inside x region r own).of j s
turn_inside x region position r own j s (Some first) e =
    subst (Inside x) (sym (completed first position (routine_heading r) j)) (completing_inside x region first position r own j e s)

define_routine-inside : (x : Looked) (region position : ℕ) (r : RoutineTree) → Own x r → Keeps (Inside x) (define_routine region position r)
unfolding define_routine look ◌>>=◌ give
define_routine-inside x region position r own =
    record { of = λ j s. turn_inside x region position r own j s (completed_by j region (routine_heading r) (routine_body r)) refl }

-- with the frame of the region
record Within (x : Looked) (g : ℕ) (f : Frame) (j : Known) : Type 0 where
  inside : Inside x j
  stands : Stands g f j

define_routine-within : (x : Looked) (g : ℕ) (f : Frame) (region position : ℕ) (r : RoutineTree) → Own x r
    → Keeps (Within x g f) (define_routine region position r)
define_routine-within x g f region position r own = record {
  of = λ j s. record {
    inside = (define_routine-inside x region position r own).of j s.inside;
    stands = (define_routine-lasts {G = Any} (standing g f) region position r tt).of j s.stands;
  };
}

turns_within : (x : Looked) (g : ℕ) (f : Frame) (region position : ℕ) (rs : List RoutineTree) (j : Known) → Each (Own x) rs → Within x g f j
    → Within x g f (each (define_routine region) position rs j).known
unfolding ◌>>=◌ give
turns_within x g f region position [] j own s = s
turns_within x g f region position (r ∷ rs) j own s =
    let d = define_routine region position r j in
    turns_within x g f region d.value rs d.known own.1 ((define_routine-within x g f region position r own.0).of j s)

-- ---- a forward heading at its own turn

-- that rule 2 is broken there, or that its name stands for it and it waits
abbrev Turned : Known → ℕ → ℕ → ℕ → Bool → Known → List Break → Type 0
Turned k region n name function j bs = In (broken_at 2 n) bs ⊎ Awaiting k region n name function j

turned : (x : Looked) (region : ℕ) (j : Known) (h : HeadingTree) (directive : ℕ) → Inside x j → Stays x.k region (heading_name h) j
    → heading_name h < length x.k.words → is_forward x.k directive ≡ true
    → (o : Option Definition) → defined_in j.regions region (name_at j (heading_name h)) ≡ o → (nine ten : List Break)
    → Turned x.k region (heading_name h) (name_at j (heading_name h)) (is_function h)
    (directed h directive (when (is_none o) (add_definition region (name_at j (heading_name h)) (own_definition h)) j).known).known
    ((((if is_none o then [] else broken_at 2 (heading_name h) ∷ [])
    ++ (when (is_none o) (add_definition region (name_at j (heading_name h)) (own_definition h)) j).broken) ++ nine) ++ ten)
unfolding when change give
turned x region j h directive s stays spelled forward None e nine ten =
    let n = heading_name h in
    let name = name_at j n in
    let more = and_definition j region name (own_definition h) in
    let left = with_row more n (waiting_row (is_function h)) in
    let after = stays-define j name (own_definition h) stays in
    let old : (m : ℕ) (d : Definition) → (m ≡ name → ⊥) → defined_in j.regions region m ≡ Some d → d.token ≡ n → ⊥ = λ m d differs is at.
    elim (s.sound.own region m d is) [
      | inl own ↦ differs (sym own ∙ ap (name_at x.k) at ∙ sym (spelled_as x.k j n s.words))
      | inr behind ↦ omega (arith, behind, at, spelled)
    ] in
    let a : Awaiting x.k region n name (is_function h) left = record {
      stays = stays-put more n (waiting_row (is_function h)) after;
      own = own_definition h;
      own_is = defined-more j region name name (own_definition h) stays.region_there
          ∙ ap (λ (o : Option Definition). or_else o (cond (nat_eq name name) (Some (own_definition h)) None)) e
          ∙ ap (λ (b : Bool). cond b (Some (own_definition h)) None) (let yes : nat_eq name name ≡ true = grind (arith, nat_tests) in yes);
      own_at = refl;
      others = λ m d differs is t. elim (one_or_other (defined_in j.regions region m) (nat_eq m name) (own_definition h) d
          (sym (defined-more j region name m (own_definition h) stays.region_there) ∙ is)) [
            | inl was ↦ old m d differs was t
            | inr new ↦ let yes : nat_eq m name ≡ true = new.0 in let same : m ≡ name = grind (arith, nat_tests, yes) in differs same
          ];
      waits = row_put more n (waiting_row (is_function h)) after.row_there;
    } in
    inr (subst (λ (i : Known). Awaiting x.k region n name (is_function h) i)
    (sym (directed-waits h directive more (forward_in x.k more s.words s.names directive ∙ forward))) a)
turned x region j h directive s stays spelled forward (Some d) e nine ten = inl (inl refl)

own_turn : (x : Looked) (region position : ℕ) (j : Known) (h : HeadingTree) (body : BodyTree) → Inside x j → Stays x.k region (heading_name h) j
    → heading_name h < length x.k.words → has_forward x.k body ≡ true
    → Turned x.k region (heading_name h) (name_at j (heading_name h)) (is_function h)
    (complete_or_define (completed_by j region h body) region position h body j).known
    (complete_or_define (completed_by j region h body) region position h body j).broken
unfolding defining define_heading define_in look ◌>>=◌ ask
own_turn x region position j h (tree.a_directive directive) s stays spelled forward =
    let n = heading_name h in
    let o = defined_in j.regions region (name_at j n) in
    let next = (when (is_none o) (add_definition region (name_at j n) (own_definition h)) j).known in
    turned x region j h directive s stays spelled forward o refl (if is_complete h then [] else broken_at 9 n ∷ []) (directed h directive next).broken
own_turn x region position j h (tree.a_block_body b) s stays spelled forward = absurd (let no_block : false ≡ true = forward in cc)

routine_turn : (x : Looked) (region position : ℕ) (j : Known) (r : RoutineTree) → Inside x j → region < length j.regions → Own x r
    → has_forward x.k (routine_body r) ≡ true
    → Turned x.k region (routine_name r) (name_at x.k (routine_name r)) (is_function (routine_heading r)) (define_routine region position r j).known
    (define_routine region position r j).broken
unfolding define_routine look give ◌>>=◌
routine_turn x region position j r s below own forward =
    let n = routine_name r in
    let spelled = own.text.spelled in
    let room = s.room in
    let stays : Stays x.k region n j = record {
      words = s.words;
      names = s.names;
      region_there = below;
      row_there = omega (arith, spelled, room);
    } in
    let d : Done (Unit {0}) = complete_or_define (completed_by j region (routine_heading r) (routine_body r)) region position (routine_heading r)
    (routine_body r) j in
    elim (subst (λ m. Turned x.k region n m (is_function (routine_heading r)) d.known d.broken) (spelled_as x.k j n s.words)
    (own_turn x region position j (routine_heading r) (routine_body r) s stays spelled forward)) [
      | inl told ↦ inl (in_left (broken_at 2 n) d.broken [] told)
      | inr awaits ↦ inr awaits
    ]

-- ---- where rule 8 is told

record Told (n : ℕ) (rs : List RoutineTree) (j : Known) : Type 0 where
  before : List RoutineTree
  r : RoutineTree
  after : List RoutineTree
  same : rs ≡ before ++ r ∷ after
  at : routine_name r ≡ n
  waits : is_waiting (row_at j n) ≡ true

own_told : (n m : ℕ) (waiting : Bool) → In (broken_at 8 n) (if not waiting then [] else broken_at 8 m ∷ []) → (m ≡ n) × (waiting ≡ true)
own_told n m true (inl e) = (ap (λ (b : Break). b.token) e, refl)
own_told n m true (inr h) = absurd h
own_told n m false h = absurd h

told_at : (n : ℕ) (rs : List RoutineTree) (j : Known) → In (broken_at 8 n) (each has_each tt rs j).broken → Told n rs j
unfolding ◌>>=◌ give has_block look ask
told_at n [] j h = absurd h
told_at n (r ∷ rs) j h = elim (in_either (broken_at 8 n) (has_block r j).broken (each has_each tt rs j).broken h) [
  | inl own ↦
      let o = own_told n (routine_name r) (is_waiting (row_at j (routine_name r))) own in
      record { before = []; r = r; after = rs; same = refl; at = o.0; waits = ap (λ i. is_waiting (row_at j i)) (sym o.0) ∙ o.1 }
  | inr later ↦
      let t = told_at n rs j later in
      record { before = r ∷ t.before; r = t.r; after = t.after; same = ap (λ (l : List RoutineTree). r ∷ l) t.same; at = t.at; waits = t.waits }
]

each_left : (P : RoutineTree → Type 0) (xs ys : List RoutineTree) → Each P (xs ++ ys) → Each P xs
each_left P [] ys h = tt
each_left P (y ∷ xs) ys h = (h.0, each_left P xs ys h.1)

each_right : (P : RoutineTree → Type 0) (xs ys : List RoutineTree) → Each P (xs ++ ys) → Each P ys
each_right P [] ys h = h
each_right P (y ∷ xs) ys h = each_right P xs ys h.1

apart_after : (before : List RoutineTree) (r : RoutineTree) (after : List RoutineTree) → Apart (before ++ r ∷ after)
    → Each (λ (s : RoutineTree). routine_name s ≡ routine_name r → ⊥) after
apart_after [] r after a = a.0
apart_after (y ∷ ys) r after a = apart_after ys r after a.1

ends : (b : Bool) → not b ≡ true → b ≡ false
ends false e = refl
ends true e = absurd (let no_end : false ≡ true = e in cc)

-- a forward heading that waits at the end
heading_lacks : (x : Looked) (g : ℕ) (f : Frame) (before : List RoutineTree) (r : RoutineTree) (after : List RoutineTree) (j : Known) → Within x g f j
    → Each (Own x) (before ++ r ∷ after) → Apart (before ++ r ∷ after) → has_forward x.k (routine_body r) ≡ true
    → is_waiting (row_at (each (define_routine f.region) 0 (before ++ r ∷ after) j).known (routine_name r)) ≡ true
    → In (broken_at 2 (routine_name r)) (each (define_routine f.region) 0 (before ++ r ∷ after) j).broken ⊎ (are_completing x.k r after ≡ false)
unfolding ◌>>=◌
heading_lacks x g f before r after j s own apart forward waits =
    let n = routine_name r in
    let region = f.region in
    let b = each (define_routine region) 0 before j in
    let d = define_routine region b.value r b.known in
    let a = each (define_routine region) d.value after d.known in
    let known = each_known (define_routine region) 0 before (r ∷ after) j in
    let broken = each_broken (define_routine region) 0 before (r ∷ after) j in
    let next = turns_within x g f region 0 before j (each_left (Own x) before (r ∷ after) own) s in
    let mine = (each_right (Own x) before (r ∷ after) own).0 in
    elim (routine_turn x region b.value b.known r next.inside next.stands.below mine forward) [
      | inl two ↦ inl (subst (λ (l : List Break). In (broken_at 2 n) l) (sym broken)
          (in_right (broken_at 2 n) b.broken (d.broken ++ a.broken) (in_left (broken_at 2 n) d.broken a.broken two)))
      | inr awaits ↦ inr (ends (are_completing x.k r after)
          (sym (waits_after after d.value d.known (apart_after before r after apart) awaits) ∙ ap (λ (i : Known). is_waiting (row_at i n)) (sym known) ∙ waits))
    ]

-- ---- a part

abbrev IsTold : Looked → Break → Type 0
IsTold x b = Contains x.bs b

-- if this is rule 8 at the token, a heading is left forward
abbrev Leads : Looked → Break → Type 0
Leads x b = b ≡ broken_at 8 x.n → Goal x

all_no_eight : (n : ℕ) (rs : List RoutineTree) → Each (λ (s : RoutineTree). Allows (Misses 8 n) (routine_name s)) rs
all_no_eight n [] = tt
all_no_eight n (r ∷ rs) = (no_eight (routine_name r) n, all_no_eight n rs)

each_in : (P : Break → Type 0) (xs : List Break) → ((b : Break) → In b xs → P b) → Each P xs
each_in P [] h = tt
each_in P (b ∷ xs) h = (h b (inl refl), each_in P xs (λ c here. h c (inr here)))

part_leads : (x : Looked) (g : ℕ) (f : Frame) (rs : List RoutineTree) (j : Known) → Part x rs → Within x g f j
    → ((b : Break) → In b (part_steps f.region rs j).broken → IsTold x b) → In (broken_at 8 x.n) (part_steps f.region rs j).broken → Goal x
unfolding ◌>>=◌
part_leads x g f rs j part s w here =
    let n = x.n in
    let region = f.region in
    let whole = each (define_routine region) 0 rs j in
    let last = each has_each tt rs whole.known in
    elim (in_either (broken_at 8 n) whole.broken last.broken here) [
      | inl early ↦
          absurd (of_each (Misses 8 n) (broken_at 8 n) whole.broken (turns_only (Misses 8 n) region rs 0 j (all_no_eight n rs)) early refl)
      | inr late ↦
          let t = told_at n rs whole.known late in
          let name = routine_name t.r in
          let own = subst (Each (Own x)) t.same part.own in
          let all = (turns_within x g f region 0 rs j part.own s).inside.waits t.waits in
          let forward = (each_right (Own x) t.before (t.r ∷ t.after) own).0.back all t.at in
          let waits = subst (λ (l : List RoutineTree). is_waiting (row_at (each (define_routine region) 0 l j).known name) ≡ true) t.same
          (ap (λ i. is_waiting (row_at whole.known i)) t.at ∙ t.waits) in
          let lacks = heading_lacks x g f t.before t.r t.after j s own (subst Apart t.same part.apart) forward waits in
          part.lead t.before t.r t.after t.same t.at (record {
            forward = forward;
            none = elim lacks [
              | inl two ↦ inl (w (broken_at 2 name) (in_left (broken_at 2 name) whole.broken last.broken
                  (subst (λ (l : List RoutineTree). In (broken_at 2 name) (each (define_routine region) 0 l j).broken) (sym t.same) two)))
              | inr none ↦ inr none
            ];
          })
    ]

has_each-keeps : {I : Known → Type 0} (u : Unit {0}) (r : RoutineTree) → Keeps I (has_each u r)
unfolding has_block
has_each-keeps u r = bind-keeps (look-keeps (λ k. is_waiting (row_at k (routine_name r)))) (λ waiting. ask-keeps _ (routine_name r) (not waiting))

part_came : (x : Looked) (g : ℕ) (f : Frame) (rs : List RoutineTree) (j : Known) → Part x rs → Within x g f j
    → Came (Within x g f) (IsTold x) (Leads x) (part_steps f.region rs) j
unfolding ◌>>=◌
part_came x g f rs j part s = record {
  kept = (each-lasts {I = Within x g f} has_each has_each-keeps tt rs).of (each (define_routine f.region) 0 rs j).known
      (turns_within x g f f.region 0 rs j part.own s);
  told = λ w. each_in (Leads x) (part_steps f.region rs j).broken (λ b here e. part_leads x g f rs j part s w
      (subst (λ c. In c (part_steps f.region rs j).broken) e here));
}

part_comes : (x : Looked) (g : ℕ) (f : Frame) (rs : RoutineTrees) → Part x (routines_in rs)
    → Comes (Within x g f) (IsTold x) (Leads x) (define_routines f.region rs)
part_comes x g f rs part = record {
  of = λ j s. subst (λ (m : Step (Unit {0})). Came (Within x g f) (IsTold x) (Leads x) m j) (sym (part_listed f.region rs))
      (part_came x g f (routines_in rs) j part s);
}

-- ---- a region

not_eight : (what : Broken) (token n : ℕ) → is_plain what ≡ true → record { broken = what; token = token } ≡ broken_at 8 n → ⊥
not_eight what token n plain e =
    let same : what ≡ Early 8 = ap (λ (b : Break). b.broken) e in
    let never : true ≡ false = sym plain ∙ ap is_plain same in cc

abbrev aim : Looked → Aim
aim x = record { words = x.k.words; P = Leads x }

plain : (x : Looked) → Plain (aim x)
plain x = record { of = λ what token is e. absurd (not_eight what token x.n is e) }

twice : (x : Looked) → Twice (aim x)
twice x = record { plain = plain x; twice = λ token e. absurd (other_rule 2 token 8 x.n (λ e. omega (arith, e)) e) }

within : (x : Looked) (g : ℕ) (f : Frame) {A : Type 0} {m : Step A} → Keeps (Inside x) m → Keeps (Stands g f) m → Keeps (Within x g f) m
within x g f h i = record { of = λ j s. record { inside = h.of j s.inside; stands = i.of j s.stands } }

-- what is defined before the procedures and functions of a block
defines : (x : Looked) (g : ℕ) (f : Frame) {A : Type 0} {m : Step A} → Keeps (Inside x) m → Keeps (Stands g f) m → Solely (aim x) m
    → Comes (Within x g f) (IsTold x) (Leads x) m
defines x g f h i solely = comes_of (λ k s. s.inside.words) (within x g f h i) solely

below_comes : (x : Looked) (g : ℕ) (f : Frame) (labels : Option LabelPartTree) (consts : Option ConstantPartTree) (kinds : Option TypePartTree)
    (variable_part : Option VariablePartTree) (routines : RoutineTrees) → Part x (routines_in routines)
    → Comes (Within x g f) (IsTold x) (Leads x) (define_labels f labels >>= λ _. define_constants f.region consts >>= λ _.
    define_types f.region kinds >>= λ _. define_variables f.region variable_part >>= λ _. define_routines f.region routines)
below_comes x g f labels consts kinds variable_part routines part =
    let c = inside_all x in
    let e : Declaring Never (Stands g f) = standing_all g f in
    bind-comes (defines x g f (define_labels-lasts c f labels) (define_labels-lasts e f labels) (define_labels-twice (twice x) f labels)) (λ _.
    bind-comes (defines x g f (define_constants-lasts c.ends f.region consts) (define_constants-lasts e.ends f.region consts)
    (define_constants-twice (twice x) f.region consts)) (λ _.
    bind-comes (defines x g f (define_types-lasts c.kept c.ends f.region kinds) (define_types-lasts e.kept e.ends f.region kinds)
    (define_types-twice (twice x) f.region kinds)) (λ _.
    bind-comes (defines x g f (define_variables-lasts c.kept f.region variable_part) (define_variables-lasts e.kept f.region variable_part)
    (define_variables-twice (twice x) f.region variable_part)) (λ _. part_comes x g f routines part))))

block_comes : (x : Looked) (g : ℕ) (f : Frame) (b : BlockTree) → Part x (block_routines b) → Comes (Within x g f) (IsTold x) (Leads x) (define_block g b)
unfolding look ◌>>=◌
block_comes x g f (tree.a_block labels consts kinds variable_part routines body) part = record {
  of = λ j s.
      let rest : Frame → Step (Unit {0}) = λ here. define_labels here labels >>= λ _. define_constants here.region consts >>= λ _.
      define_types here.region kinds >>= λ _. define_variables here.region variable_part >>= λ _. define_routines here.region routines in
      let c = subst (λ (here : Frame). Came (Within x g f) (IsTold x) (Leads x) (rest here) j) (sym (stands_at g f j s.stands))
      ((below_comes x g f labels consts kinds variable_part routines part).of j s) in
      record { kept = c.kept; told = λ w. c.told w };
}

body_comes : (x : Looked) (g : ℕ) (f : Frame) (body : BodyTree) → Part x (routines_in_body body)
    → Comes (Within x g f) (IsTold x) (Leads x) (define_body g body)
body_comes x g f (tree.a_directive directive) part = give-comes tt
body_comes x g f (tree.a_block_body b) part = block_comes x g f b part

-- what is known of a procedure or function, and of the part in it
record Site (x : Looked) (r : RoutineTree) : Type 0 where
  own : Own x r
  part : Part x (routines_in_body (routine_body r))

-- any record type, and any formal procedure or function
abbrev AnyFields : FieldsTree → Type 0
AnyFields fields = Unit {0}

abbrev AnyHeading : HeadingTree → Type 0
AnyHeading h = Unit {0}

completion_comes : (x : Looked) (g : ℕ) (f : Frame) (o : Option RoutineTree) → Completes (Site x) o
    → Comes (Within x g f) (IsTold x) (Leads x) (define_completion g o)
completion_comes x g f None seen = give-comes tt
completion_comes x g f (Some r) site = body_comes x g f (routine_body r) site.part

inside_comes : (x : Looked) (g : ℕ) (f : Frame) (r : RoutineTree) (o : Option RoutineTree) → Site x r → Completes (Site x) o
    → Comes (Within x g f) (IsTold x) (Leads x) (define_inside g (routine_heading r) (routine_body r) o)
unfolding define_inside
inside_comes x g f r o site seen =
    let c = inside_last x in
    let e : Lasting Never (Stands g f) = standing g f in
    bind-comes (defines x g f (define_formals_at-lasts c g (routine_heading r)) (define_formals_at-lasts e g (routine_heading r))
    (define_formals_at-twice (twice x) g (routine_heading r))) (λ _. bind-comes (body_comes x g f (routine_body r) site.part) (λ _.
    completion_comes x g f o seen))

new_region : (x : Looked) (k : Known) (token : ℕ) (f : Frame) → Inside x k → f.region ≡ length k.regions → Within x (length k.frames) f (and_region k token f)
new_region x k token f s e = record { inside = (inside_last x).regions k token f s; stands = opened k token f e }

entering : (x : Looked) → Entering AnyFields AnyHeading (λ rs. Site x) (Inside x) (IsTold x) (aim x)
entering x = record {
  low = inside_all x;
  spelled = λ k s. s.words;
  records = record { plain = plain x; fields = λ k word f fields e s r. (define_record-twice (twice x) (length k.frames) fields).of (and_region k word f) s };
  formals = record { plain = plain x; formals = λ k token f h e s r. (define_formals_at-twice (twice x) (length k.frames) h).of (and_region k token f) s };
  inside = λ k f rs r completion i e site is seen.
      let c = (inside_comes x (length k.frames) f r completion site seen).of (and_region k (routine_name r) f) (new_region x k (routine_name r) f i e) in
      record { kept = c.kept.inside; told = λ w. c.told w };
}

program_comes : (x : Looked) (g : ℕ) (f : Frame) (t : ProgramTree) → Part x (block_routines t.block)
    → Comes (Within x g f) (IsTold x) (Leads x) (define_program g t)
unfolding define_program
program_comes x g f t part =
    let c = inside_last x in
    let e : Lasting Never (Stands g f) = standing g f in
    bind-comes (look-comes (λ k. (frame_at k g).region)) (λ region.
    bind-comes (defines x g f (program_parameters-lasts c region t.parameters) (program_parameters-lasts e region t.parameters)
    (program_parameters-twice (twice x) region t.parameters)) (λ _. block_comes x g f t.block part))

-- ---- where the token stands

-- the name of none of these
mutual
  unnamed_block : (x : Looked) (b : BlockTree) → (Has (block_node b) x.n → ⊥) → OfRoutines (IsForwardThere x) b
  unnamed_block x (tree.a_block labels constants types variables routines body) off =
      unnamed_part x routines (λ h. off (inr (inr (inr (inr (inl h))))))

  unnamed_part : (x : Looked) (rs : RoutineTrees) → (Has (routines_node rs) x.n → ⊥) → OfEach (IsForwardThere x) rs
  unnamed_part x tree.end_of_routines off = tt
  unnamed_part x (tree.more_routines r rest) off = (unnamed_routine x r (λ h. off (inl h)), unnamed_part x rest (λ h. off (inr h)))

  unnamed_routine : (x : Looked) (r : RoutineTree) → (Has (routine_node r) x.n → ⊥) → OfRoutine (IsForwardThere x) r
  unnamed_routine x (tree.a_routine heading semicolon body last_semicolon) off = (
    (λ e. absurd (off (inl (subst (Has (heading_node heading)) e (name_has heading))))),
    unnamed_body x body (λ h. off (inr (inr (inl h)))),
  )

  unnamed_body : (x : Looked) (body : BodyTree) → (Has (body_node body) x.n → ⊥) → OfBody (IsForwardThere x) body
  unnamed_body x (tree.a_directive directive) off = tt
  unnamed_body x (tree.a_block_body b) off = unnamed_block x b off

name_off : (n : ℕ) (rs : RoutineTrees) → (Has (routines_node rs) n → ⊥) → Each (λ (s : RoutineTree). routine_name s ≡ n → ⊥) (routines_in rs)
name_off n tree.end_of_routines off = tt
name_off n (tree.more_routines (tree.a_routine heading semicolon body last_semicolon) rest) off =
    ((λ e. off (inl (inl (subst (Has (heading_node heading)) e (name_has heading))))), name_off n rest (λ h. off (inr h)))

part_apart : (rs : RoutineTrees) → IsDistinct (routines_node rs) → Apart (routines_in rs)
part_apart tree.end_of_routines d = tt
part_apart (tree.more_routines (tree.a_routine heading semicolon body last_semicolon) rest) d =
    (name_off (heading_name heading) rest (λ h. d.2 (heading_name heading) (inl (name_has heading)) h), part_apart rest d.1)

-- ---- all procedures and functions of a text

abbrev IsLeft : Looked → BlockTree → Type 0
IsLeft x b = IsLeftForward x.k x.bs x.n b

abbrev Lead : Looked → BlockTree → Type 0
Lead x b = IsLeft x b → Goal x

abbrev SeenPart : Looked → (all rs : RoutineTrees) → Type 0
SeenPart x all rs = SeenEach AnyFields AnyHeading (λ a. Site x) all rs

-- the part of a block, and what is known of all in it
record Known8 (x : Looked) (b : BlockTree) : Type 0 where
  part : Part x (block_routines b)
  all : SeenBlock AnyFields AnyHeading (λ a. Site x) b

own_each : (x : Looked) (all rs : RoutineTrees) → SeenPart x all rs → Each (Own x) (routines_in rs)
own_each x all tree.end_of_routines h = tt
own_each x all (tree.more_routines r rest) h = ((seen_own AnyFields AnyHeading (λ a. Site x) all r h.0).site.own, own_each x all rest h.1)

nothing_left : (x : Looked) (before : List RoutineTree) (r : RoutineTree) (after : List RoutineTree) → [] ≡ before ++ r ∷ after → ⊥
nothing_left x [] r after e = cc
nothing_left x (y ∷ ys) r after e = cc

mutual
  site_block : (x : Looked) (b : BlockTree) → OfRoutines (IsOfText x.k x.t) b → IsDistinct (block_node b)
      → (Has (block_node b) x.n → OfRoutines (IsForwardThere x) b → AllForward x) → (AllForward x → OfRoutines (IsForwardThere x) b)
      → (SomeBlock (IsLeft x) b → Goal x) → Known8 x b
  site_block x (tree.a_block labels constants types variables routines body) text d forward back lead =
      let inner = d.1.1.1.1.0 in
      let all = site_part x routines routines text inner (λ has f. forward (inr (inr (inr (inr (inl has))))) f) back (λ s. lead (inr s)) in
      record {
        part = record {
          lead = λ before r after same at lacks.
              lead (inl (record { before = before; r = r; after = after; one = same; at = at; lacks = lacks }));
          apart = part_apart routines inner;
          own = own_each x routines routines all;
        };
        all = all;
      }

  site_part : (x : Looked) (all rs : RoutineTrees) → OfEach (IsOfText x.k x.t) rs → IsDistinct (routines_node rs)
      → (Has (routines_node rs) x.n → OfEach (IsForwardThere x) rs → AllForward x) → (AllForward x → OfEach (IsForwardThere x) rs)
      → (SomeInside (IsLeft x) rs → Goal x) → SeenPart x all rs
  site_part x all tree.end_of_routines text d forward back lead = tt
  site_part x all (tree.more_routines r rest) text d forward back lead = (
    site_routine x all r text.0 d.0 (λ has f. forward (inl has) (f, unnamed_part x rest (λ h. d.2 x.n has h))) (λ all. (back all).0) (λ s. lead (inl s)),
    site_part x all rest text.1 d.1 (λ has f. forward (inr has) (unnamed_routine x r (λ h. d.2 x.n h has), f)) (λ all. (back all).1) (λ s. lead (inr s)),
  )

  site_routine : (x : Looked) (all : RoutineTrees) (r : RoutineTree) → OfRoutine (IsOfText x.k x.t) r → IsDistinct (routine_node r)
      → (Has (routine_node r) x.n → OfRoutine (IsForwardThere x) r → AllForward x) → (AllForward x → OfRoutine (IsForwardThere x) r)
      → (SomeOfRoutine (IsLeft x) r → Goal x) → SeenRoutine AnyFields AnyHeading (λ a. Site x) all r
  site_routine x all (tree.a_routine heading semicolon body last_semicolon) text d forward back lead =
      let named : heading_name heading ≡ x.n → Has (heading_node heading) x.n = λ e. subst (Has (heading_node heading)) e (name_has heading) in
      let inner = site_body x body text.1 d.1.1.0
      (λ has f. forward (inr (inr (inl has))) ((λ e. absurd (d.2 x.n (named e) (inr (inl has)))), f)) (λ all. (back all).1) lead in (
        record {
          records = body_all AnyFields (λ f. tt) body;
          heading = heading_all AnyHeading (λ h. tt) heading;
          site = record {
            own = record {
              text = text.0;
              forward = λ e f. forward (inl (named e)) ((λ _. f), unnamed_body x body (λ h. d.2 x.n (named e) (inr (inl h))));
              back = λ all. (back all).0;
            };
            part = inner.0;
          };
        },
        inner.1,
      )

  site_body : (x : Looked) (body : BodyTree) → OfBody (IsOfText x.k x.t) body → IsDistinct (body_node body)
      → (Has (body_node body) x.n → OfBody (IsForwardThere x) body → AllForward x) → (AllForward x → OfBody (IsForwardThere x) body)
      → (SomeOfBody (IsLeft x) body → Goal x) → Part x (routines_in_body body) × SeenBody AnyFields AnyHeading (λ a. Site x) body
  site_body x (tree.a_directive directive) text d forward back lead = (
    record {
      lead = λ before r after same at lacks. absurd (nothing_left x before r after same);
      apart = tt;
      own = tt;
    },
    tt,
  )
  site_body x (tree.a_block_body b) text d forward back lead = let known = site_block x b text d forward back lead in (known.part, known.all)

-- ---- a text

blank_waits : (size n : ℕ) → is_waiting (unwrap_or (slice_get (replicate size Row.Nothing) n) Row.Nothing) ≡ false
blank_waits zero n = refl
blank_waits (suc size) zero = refl
blank_waits (suc size) (suc n) = blank_waits size n

length_blank : (n : ℕ) (r : Row) → length (replicate n r) ≡ n
length_blank zero r = refl
length_blank (suc n) r = ap suc (length_blank n r)

start : (l : Lexed) (t : ProgramTree) (n : ℕ)
    → Inside (record { k = known_at_start l; t = t.block; bs = broken l t; n = n }) (known_at_start l)
start l t n = record {
  words = refl;
  names = refl;
  room =
      let words : length (known_at_start l).words ≡ length l.tokens = length-map l.tokens (word_of (names_of l) l.source) in
      let rows : length (known_at_start l).program.rows ≡ length l.tokens + length required_names
      = length_blank (length l.tokens + length required_names) Row.Nothing in
      omega (arith, words, rows);
  sound = start_sound l t.block;
  waits = λ e. absurd (let never : false ≡ true = sym (blank_waits (length l.tokens + length required_names) n) ∙ e in cc);
}

pub text_eight_law : TextsBreakEight
unfolding check_step ◌>>=◌
text_eight_law l t token spelled contained =
    let k = known_at_start l in
    let x : Looked = record { k = k; t = t.block; bs = broken l t; n = token } in
    let b = broken_at 8 token in
    let distinct = (text_law l.tokens t spelled).1.1.1.1.0 in
    let text = text_block k t.block t.block (text_tokens l t spelled).1.1.1.1.0 (λ name none. none) in
    let known = site_block x t.block text distinct (λ has f. f) (λ all. all) (λ s. s) in
    let came = program-came (entering x) t k (start l t token) (own_all AnyFields (λ f. tt) t.block) known.all (λ j f i e.
    let c = (program_comes x (length j.frames) f t known.part).of (and_region j 0 f) (new_region x j 0 f i e) in
    record { kept = c.kept.inside; told = λ w. c.told w }) in
    let d = program_step t k in
    let e = code_block d.value t.block d.known in
    elim (in_either b d.broken e.broken (found b (d.broken ++ e.broken) contained)) [
      | inl early ↦ of_each (Leads x) b d.broken (came.told (λ c i. as_told c (d.broken ++ e.broken) (in_left c d.broken e.broken i))) early refl
      | inr late ↦
          let used = (of_each (Used Anywhere loose) b e.broken ((code_block-touches d.value t.block).told d.known) late).used in
          absurd (let never : true ≡ false = used in cc)
    ]
