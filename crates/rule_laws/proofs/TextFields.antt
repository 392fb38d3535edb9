-- The fields of a text's record types.
use Rattle.std.proofs.Common.{◌++◌, ◌+◌, ◌<◌, ◌||◌, ◌∙◌, ◌∷◌, ◌≡◌, [], ℕ, Bool, Contains, List, None, Option, Some, ap, arith, false, is_some, length, refl}
use Rattle.std.proofs.Common.{slice_get, subst, sym, true, unwrap_or}
use Rattle.std.proofs.lemmas.List.{length-append}
use Rattle.pas_tree.specs.{BlockTrees.VariableDeclarationTree, BlockTrees.VariablePartTree, DenoterPlaces.first_of_denoter, DenoterTrees.StructureTree}
use Rattle.pas_tree.specs.{DenoterTrees.VariantsTree, StatementPlaces.compound_word, StatementTrees.CompoundTree}
use Rattle.pas_tree.specs.BlockTrees.{BlockTree, BodyTree, ConstantPartTree, LabelPartTree, RoutineTree, RoutineTrees, TypeDefinitionTree, TypePartTree}
use Rattle.pas_tree.specs.BlockTrees as blocks
use Rattle.pas_tree.specs.DenoterTrees.{ArmTree, ArmTrees, ArrayTree, DenoterTree, DenoterTrees, FieldsTree, FixedTree, PartTree, SectionTree, SectionTrees}
use Rattle.pas_tree.specs.DenoterTrees as denoters
use Rattle.check_steps.specs.{Known.Known, Known.and_region, Known.frame_at, Known.name_at, Regions.defined_in, Regions.fresh_region, Words.known_at_start}
use Rattle.check_steps.specs.Steps.{◌>>=◌, Step, each, extend, look}
use Rattle.check_steps.specs.declared.{breaks.Break.Break, regions.Frame.Frame, words.SpelledToken.SpelledToken}
use Rattle.kind_checker.specs.{Sizes.capped, declared.types.Scope.Scope}
use Rattle.denoter_checker.specs.{Defines.define_record, declared.defines.Wanted.Wanted}
use Rattle.denoter_checker.specs.Denoters.{arm_at, arms_at, array_denoter, denoter, fields_at, fixed_at, more_sections, open_record, other_indexes, part_at}
use Rattle.denoter_checker.specs.Denoters.{scope_inside, section, structure, variants_after, variants_at}
use Rattle.denoter_checker.specs.Parts.{at_names, type_definition, types_in, variable_declaration, variables_in}
use Rattle.decl_checker.specs.{Blocks.parts, Blocks.types, Blocks.variables, Blocks.word_after, Programs.main_row, Programs.program_step, Routines.block}
use Rattle.decl_checker.specs.{Routines.body_in, Routines.routine, Routines.routines_in, declared.routines.Entered.Entered}
use Rattle.code_checker.specs.CheckedPrograms.{broken, check_step}
use Rattle.rule_laws.proofs.{Breaks.Each, Breaks.In, Breaks.contained, Breaks.in_left, InTurn.Wrong, InTurn.one_wrong, Keeping.bind-keeps, Keeping.look-keeps}
use Rattle.rule_laws.proofs.{Lasting.Declaring, Lasting.Lasting, Lasting.add_routine-lasts, LastsArrays.put_index-lasts, LastsDefines.define_record-lasts}
use Rattle.rule_laws.proofs.{LastsDenoters.section-lasts, LastsParts.type_definition-lasts, LastsParts.variable_declaration-lasts}
use Rattle.rule_laws.proofs.{LastsPrograms.define_program-lasts, LastsPrograms.open_program-lasts, LastsRoutines.enter_heading-lasts}
use Rattle.rule_laws.proofs.{LastsRoutines.routine-lasts, LastsTypes.ordinal-lasts, NameLaw.begun, NameLaw.fields_go, NameTurns.Region, NameTurns.rule_two}
use Rattle.rule_laws.proofs.Gives.{Gives, gives_both, gives_first, gives_none, gives_then}
use Rattle.rule_laws.proofs.LastsBlocks.{constants-lasts, parts-lasts, put_body-lasts, types-lasts}
use Rattle.rule_laws.proofs.LastsDenoters.{arm_at-lasts, choosing_of-lasts, denoter-lasts, fixed_at-lasts, open_record-lasts, other_indexes-lasts}
use Rattle.rule_laws.specs.{Laws.broken_at, NameLaws.block_routines, RegionNames.field_names, TextParts.OfRoutine, TextParts.OfRoutines}
use Rattle.rule_laws.specs.TextLaws.{SecondsAreTold, TextsTellFields, has_name}
use Rattle.rule_laws.specs.TextParts.{InArm, InArms, InArray, InBody, InFields, InFixed, InIndexes, InPart, InRoutine, InRoutines, InSection, InSections}
use Rattle.rule_laws.specs.TextParts.{InStructure, InTypePart, InTypes, InVariablePart, InVariables, InVariants, OfBody, OfEach, OfRecords, OfRecordsIn}

-- ---- what the tokens spell

pub record Spells (k j : Known) : Type 0 where
  pub words : j.words ≡ k.words

-- any procedure or function
abbrev pub Any : RoutineTree → Type 0
Any r = Unit {0}

pub spelling : (k : Known) → Lasting Any (Spells k)
spelling k = record {
  puts = λ j m r quiet i. record { words = i.words };
  stays = λ j m i. record { words = i.words };
  bodies = λ j n r same i. record { words = i.words };
  routines = λ j r i. record { words = i.words };
  frames = λ j f i. record { words = i.words };
  regions = λ j token f i. record { words = i.words };
  defines = λ j region d at i. record { words = i.words };
  requires = λ j name d behind i. record { words = i.words };
  chooses = λ j list value i. record { words = i.words };
  records = λ j word packed region cells variants fresh i. record { words = i.words };
  waits = λ j r g none i. record { words = i.words };
  completes = λ j region first position r g e i. record { words = i.words };
}

pub spelling_all : (k : Known) → Declaring Any (Spells k)
spelling_all k = record {
  kept = spelling k;
  ends = λ j region d i. record { words = i.words };
  declares = λ j region value token i. record { words = i.words };
  labels = λ j token value level i. record { words = i.words };
  heads = λ j name number region named few i. record { words = i.words };
}

pub same_names : (k j : Known) (before : List ℕ) (x : ℕ) → Spells k j → has_name j before x ≡ has_name k before x
same_names k j before x s = ap (λ (ws : List SpelledToken). has_name (record k { words = ws }) before x) s.words

mutual
  pub any_routines : (b : BlockTree) → OfRoutines Any b
  any_routines (blocks.a_block labels constants types variables routines body) = any_part routines

  pub any_part : (rs : RoutineTrees) → OfEach Any rs
  any_part blocks.end_of_routines = tt
  any_part (blocks.more_routines r rest) = (any_routine r, any_part rest)

  any_routine : (r : RoutineTree) → OfRoutine Any r
  any_routine (blocks.a_routine heading semicolon body last_semicolon) = (tt, any_body body)

  pub any_body : (body : BodyTree) → OfBody Any body
  any_body (blocks.a_directive directive) = tt
  any_body (blocks.a_block_body b) = any_routines b

pub any_each : (rs : List RoutineTree) → Each Any rs
any_each [] = tt
any_each (r ∷ rs) = (tt, any_each rs)

-- ---- one record type

got_last : {X : Type 0} (xs : List X) (x other : X) → unwrap_or (slice_get (xs ++ x ∷ []) (length xs)) other ≡ x
got_last [] x other = refl
got_last (y ∷ ys) x other = got_last ys x other

pub opened_below : (k : Known) (token : ℕ) (f : Frame) → f.region ≡ length k.regions
    → (frame_at (and_region k token f) (length k.frames)).region < length (and_region k token f).regions
opened_below k token f e =
    let got = ap (λ (g : Frame). g.region) (got_last k.frames f (record { region = 0; outer = None; level = 0; withs = 0 })) in
    let more = length-append k.regions (fresh_region token (length k.frames) ∷ []) in
    omega (arith, got, e, more)

pub or_true : (b : Bool) → (b || true) ≡ true
or_true true = refl
or_true false = refl

fields_told : (k : Known) (frame : ℕ) (fields : FieldsTree) (before : List ℕ) (name : ℕ) (after : List ℕ) → (frame_at k frame).region < length k.regions
    → field_names Wanted.Fields fields ≡ before ++ name ∷ after → has_name k before name ≡ true
    → In (broken_at 2 name) (define_record frame fields k).broken
unfolding define_record look ◌>>=◌
fields_told k frame fields before name after below same second =
    let region = (frame_at k frame).region in
    let p : Region = record { k = k; region = region; t = name } in
    let ends = (fields_go p Wanted.Fields fields).of [] k (begun k region name below) in
    let bad = ap (λ b. is_some (defined_in k.regions region (name_at k name)) || b) second
    ∙ or_true (is_some (defined_in k.regions region (name_at k name))) in
    ends.back (subst (λ (l : List ℕ). Wrong (rule_two p) [] l) (sym same) (one_wrong (rule_two p) [] before name after refl bad))

-- of a text: what is known at its start, and the rules that it breaks
pub record Text : Type 0 where
  pub k : Known
  pub bs : List Break

abbrev pub IsTold : Text → Break → Type 0
IsTold x b = Contains x.bs b

abbrev pub Tells : Text → FieldsTree → Type 0
Tells x fields = SecondsAreTold x.k x.bs (field_names Wanted.Fields fields)

record_gives : (x : Text) (around word : ℕ) (fields : FieldsTree) {A : Type 0} (rest : ℕ → Step A)
    → Gives (Spells x.k) (IsTold x) (open_record around word >>= λ frame. define_record frame fields >>= λ _. rest frame) (Tells x fields)
unfolding open_record look extend ◌>>=◌
record_gives x around word fields rest = record {
  of = λ k i w before name after same second.
      let f : Frame = record { region = length k.regions; outer = Some around; level = (frame_at k around).level; withs = 0 } in
      let j = and_region k word f in
      let frame = length k.frames in
      let told = fields_told j frame fields before name after (opened_below k word f refl) same
      (same_names x.k j before name (record { words = i.words }) ∙ second) in
      w (broken_at 2 name) (in_left (broken_at 2 name) (define_record frame fields j).broken
      (rest frame (define_record frame fields j).known).broken told);
}

-- ---- types

mutual
  denoter_gives : (x : Text) (s : Scope) (d : DenoterTree) → Gives (Spells x.k) (IsTold x) (denoter s d) (OfRecords (Tells x) d)
  denoter_gives x s (denoters.a_type_name token) = gives_none
  denoter_gives x s (denoters.an_enumeration e) = gives_none
  denoter_gives x s (denoters.a_subrange first dots last) = gives_none
  denoter_gives x s (denoters.a_pointer caret name) = gives_none
  denoter_gives x s (denoters.a_structure packed d) = structure_gives x s (is_some packed) d

  structure_gives : (x : Text) (s : Scope) (packed : Bool) (d : StructureTree)
      → Gives (Spells x.k) (IsTold x) (structure s packed d) (InStructure (Tells x) d)
  structure_gives x s packed (denoters.an_array a) = array_gives x s packed a
  structure_gives x s packed (denoters.a_record word fields end) =
      gives_both (record_gives x s.frame word fields _) (gives_then (open_record-lasts (spelling x.k) s.frame word) (λ frame.
      gives_then (define_record-lasts (spelling x.k) frame fields) (λ _. gives_first _ (fields_give x (scope_inside s frame) word 0 fields))))
  structure_gives x s packed (denoters.a_set_type word of base) = gives_first _ (denoter_gives x s base)

  array_gives : (x : Text) (s : Scope) (packed : Bool) (a : ArrayTree) → Gives (Spells x.k) (IsTold x) (array_denoter s packed a) (InArray (Tells x) a)
  array_gives x s packed (denoters.index_types word left first others right of component) =
      let c = spelling x.k in
      let m = array_denoter s packed (denoters.index_types word left first others right of component) in
      let one : Gives (Spells x.k) (IsTold x) m (OfRecords (Tells x) first) = gives_first _ (denoter_gives x s first) in
      let two : Gives (Spells x.k) (IsTold x) m (InIndexes (Tells x) others) =
      gives_then (denoter-lasts c s first) (λ written. gives_then (ordinal-lasts c (first_of_denoter first) word written) (λ index.
      gives_first _ (indexes_give x s word others))) in
      let three : Gives (Spells x.k) (IsTold x) m (OfRecords (Tells x) component) =
      gives_then (denoter-lasts c s first) (λ written. gives_then (ordinal-lasts c (first_of_denoter first) word written) (λ index.
      gives_then (other_indexes-lasts c s word others) (λ _. gives_first _ (denoter_gives x s component)))) in
      record { of = λ k i w. (one.of k i w, two.of k i w, three.of k i w) }

  indexes_give : (x : Text) (s : Scope) (word : ℕ) (r : DenoterTrees) → Gives (Spells x.k) (IsTold x) (other_indexes s word r) (InIndexes (Tells x) r)
  indexes_give x s word denoters.end_of_denoters = gives_none
  indexes_give x s word (denoters.more_denoters comma d rest) =
      let c = spelling x.k in
      gives_both (gives_first _ (gives_first _ (denoter_gives x s d)))
      (gives_then (bind-keeps (denoter-lasts c s d) (λ written.
      bind-keeps (ordinal-lasts c (first_of_denoter d) word written) (λ index. put_index-lasts c comma index)))
      (λ _. indexes_give x s word rest))

  fields_give : (x : Text) (s : Scope) (holder offset : ℕ) (f : FieldsTree) → Gives (Spells x.k) (IsTold x) (fields_at s holder offset f) (InFields (Tells x) f)
  fields_give x s holder offset denoters.without_fields = gives_none
  fields_give x s holder offset (denoters.fixed_fields fixed part last) =
      gives_both (gives_first _ (fixed_gives x s holder offset fixed))
      (gives_then (fixed_at-lasts (spelling x.k) s holder offset fixed) (λ next. part_gives x s holder next part))
  fields_give x s holder offset (denoters.variant_fields variants last) = variants_give x s holder offset variants

  fixed_gives : (x : Text) (s : Scope) (holder offset : ℕ) (f : FixedTree) → Gives (Spells x.k) (IsTold x) (fixed_at s holder offset f) (InFixed (Tells x) f)
  fixed_gives x s holder offset (denoters.fixed_part first others) =
      gives_both (gives_first _ (section_gives x s holder offset first))
      (gives_then (section-lasts (spelling x.k) s holder offset first) (λ next. sections_give x s holder next others))

  section_gives : (x : Text) (s : Scope) (holder offset : ℕ) (f : SectionTree)
      → Gives (Spells x.k) (IsTold x) (section s holder offset f) (InSection (Tells x) f)
  section_gives x s holder offset (denoters.a_section names colon d) = gives_first _ (denoter_gives x s d)

  sections_give : (x : Text) (s : Scope) (holder offset : ℕ) (r : SectionTrees)
      → Gives (Spells x.k) (IsTold x) (more_sections s holder offset r) (InSections (Tells x) r)
  sections_give x s holder offset denoters.end_of_sections = gives_none
  sections_give x s holder offset (denoters.more_sections semicolon f rest) =
      gives_both (gives_first _ (section_gives x s holder offset f))
      (gives_then (section-lasts (spelling x.k) s holder offset f) (λ next. sections_give x s holder next rest))

  part_gives : (x : Text) (s : Scope) (holder offset : ℕ) (p : PartTree)
      → Gives (Spells x.k) (IsTold x) (variants_after s holder offset p) (InPart (Tells x) p)
  part_gives x s holder offset denoters.without_part = gives_none
  part_gives x s holder offset (denoters.a_part semicolon variants) = variants_give x s holder offset variants

  variants_give : (x : Text) (s : Scope) (holder offset : ℕ) (v : VariantsTree)
      → Gives (Spells x.k) (IsTold x) (variants_at s holder offset v) (InVariants (Tells x) v)
  variants_give x s holder offset (denoters.arms word tag of_word first others) =
      let c = spelling x.k in
      gives_then (choosing_of-lasts c (part_at s word holder offset) tag of_word first others) (λ _.
      gives_both (gives_first _ (arm_gives x s (capped (offset + 1)) first))
      (gives_then (arm_at-lasts c s (capped (offset + 1)) first) (λ next. gives_first _ (arms_give x s next others))))

  arm_gives : (x : Text) (s : Scope) (offset : ℕ) (a : ArmTree) → Gives (Spells x.k) (IsTold x) (arm_at s offset a) (InArm (Tells x) a)
  arm_gives x s offset (denoters.an_arm constants colon left fields right) = fields_give x s left offset fields

  arms_give : (x : Text) (s : Scope) (offset : ℕ) (r : ArmTrees) → Gives (Spells x.k) (IsTold x) (arms_at s offset r) (InArms (Tells x) r)
  arms_give x s offset denoters.end_of_arms = gives_none
  arms_give x s offset (denoters.more_arms semicolon a rest) =
      gives_both (gives_first _ (arm_gives x s offset a)) (gives_then (arm_at-lasts (spelling x.k) s offset a) (λ next. arms_give x s next rest))

-- ---- blocks

types_give : (x : Text) (s : Scope) (u : Unit {0}) (ds : List TypeDefinitionTree)
    → Gives (Spells x.k) (IsTold x) (each (type_definition s) u ds) (InTypes (Tells x) ds)
unfolding type_definition
types_give x s u [] = gives_none
types_give x s u (d ∷ ds) = gives_both (gives_first _ (gives_first _ (denoter_gives x s d.denoter)))
    (gives_then (type_definition-lasts (spelling x.k) s u d) (λ v. types_give x s v ds))

type_part_gives : (x : Text) (frame after' : ℕ) (p : Option TypePartTree) → Gives (Spells x.k) (IsTold x) (types frame after' p) (InTypePart (Tells x) p)
type_part_gives x frame after' None = gives_none
type_part_gives x frame after' (Some p) = gives_first _ (types_give x (record { frame = frame; domains_at = Some after' }) tt (types_in p))

variables_give : (x : Text) (frame place : ℕ) (ds : List VariableDeclarationTree)
    → Gives (Spells x.k) (IsTold x) (each (variable_declaration frame) place ds) (InVariables (Tells x) ds)
unfolding variable_declaration
variables_give x frame place [] = gives_none
variables_give x frame place (d ∷ ds) =
    gives_both (gives_first _ (gives_then (look-keeps (λ k. (frame_at k frame).level)) (λ level. gives_first _ (denoter_gives x (at_names frame) d.denoter))))
    (gives_then (variable_declaration-lasts (spelling x.k) frame place d) (λ next. variables_give x frame next ds))

variable_part_gives : (x : Text) (frame place : ℕ) (p : Option VariablePartTree)
    → Gives (Spells x.k) (IsTold x) (variables frame place p) (InVariablePart (Tells x) p)
variable_part_gives x frame place None = gives_none
variable_part_gives x frame place (Some p) = variables_give x frame place (variables_in p)

parts_give : (x : Text) (frame place : ℕ) (labels : Option LabelPartTree) (consts : Option ConstantPartTree) (kinds : Option TypePartTree)
    (variable_part : Option VariablePartTree) (routines : RoutineTrees) (body : CompoundTree)
    → Gives (Spells x.k) (IsTold x) (parts frame place (blocks.a_block labels consts kinds variable_part routines body))
    (InTypePart (Tells x) kinds × InVariablePart (Tells x) variable_part)
parts_give x frame place labels consts kinds variable_part routines body =
    let c = spelling x.k in
    let after = word_after variable_part routines body in
    gives_then (constants-lasts c frame consts) (λ _. gives_both (gives_first _ (type_part_gives x frame after kinds))
    (gives_then (types-lasts c frame after kinds) (λ _. variable_part_gives x frame place variable_part)))

mutual
  block_gives : (x : Text) (frame number place : ℕ) (b : BlockTree) → Gives (Spells x.k) (IsTold x) (block frame number place b) (OfRecordsIn (Tells x) b)
  block_gives x frame number place (blocks.a_block labels consts kinds variable_part routines body) =
      let c = spelling x.k in
      let b = blocks.a_block labels consts kinds variable_part routines body in
      let own : Gives (Spells x.k) (IsTold x) (block frame number place b) (InTypePart (Tells x) kinds × InVariablePart (Tells x) variable_part) =
      gives_first _ (parts_give x frame place labels consts kinds variable_part routines body) in
      let inner : Gives (Spells x.k) (IsTold x) (block frame number place b) (InRoutines (Tells x) routines) =
      gives_then (parts-lasts c frame place b) (λ end. gives_then (put_body-lasts c number end (compound_word body)) (λ _.
      gives_first _ (routines_give x frame routines routines))) in
      record { of = λ k i w. let o = own.of k i w in (o.0, o.1, inner.of k i w) }

  routines_give : (x : Text) (frame : ℕ) (rs part : RoutineTrees) → Gives (Spells x.k) (IsTold x) (routines_in frame rs part) (InRoutines (Tells x) part)
  routines_give x frame rs blocks.end_of_routines = gives_none
  routines_give x frame rs (blocks.more_routines r rest) = gives_both (gives_first _ (routine_gives x frame rs r))
      (gives_then (routine-lasts (spelling_all x.k) frame rs r (any_part rs) (any_routine r)) (λ _. routines_give x frame rs rest))

  routine_gives : (x : Text) (frame : ℕ) (rs : RoutineTrees) (r : RoutineTree) → Gives (Spells x.k) (IsTold x) (routine frame rs r) (InRoutine (Tells x) r)
  routine_gives x frame rs (blocks.a_routine heading semicolon body last_semicolon) =
      gives_then (enter_heading-lasts (spelling_all x.k) frame rs (blocks.a_routine heading semicolon body last_semicolon) (any_part rs) (any_body body))
      (λ e. body_gives x e body)

  body_gives : (x : Text) (e : Entered) (body : BodyTree) → Gives (Spells x.k) (IsTold x) (body_in e body) (InBody (Tells x) body)
  body_gives x e (blocks.a_directive directive) = gives_none
  body_gives x e (blocks.a_block_body b) = block_gives x e.frame e.number e.place b

pub text_field_law : TextsTellFields
unfolding check_step program_step
text_field_law l t =
    let x : Text = record { k = known_at_start l; bs = broken l t } in
    let c = spelling x.k in
    let gives : Gives (Spells x.k) (IsTold x) (check_step t) (OfRecordsIn (Tells x) t.block) =
    gives_first _ (gives_then (open_program-lasts c) (λ frame.
    gives_then (define_program-lasts (spelling_all x.k) frame t (any_each (block_routines t.block))) (λ _.
    gives_then (add_routine-lasts c (main_row t.name)) (λ number. gives_first _ (block_gives x frame number 1 t.block))))) in
    gives.of (known_at_start l) (record { words = refl }) (λ b i. contained b (broken l t) i)
