-- What the steps of `Rattle.denoter_checker.specs.Denoters` break.
use Rattle.std.proofs.Common.{◌+◌, ◌∙◌, ◌≡◌, ℕ, Bool, Option, Some, is_none, is_some, length, refl}
use Rattle.pas_tree.specs.{DenoterPlaces.first_of_denoter, DenoterTrees.StructureTree, DenoterTrees.VariantsTree, declared.denoters.Tag.Tag}
use Rattle.pas_tree.specs.DenoterTrees.{ArmTree, ArmTrees, ArrayTree, DenoterTree, DenoterTrees, FieldsTree, FixedTree, PartTree, SectionTree, SectionTrees}
use Rattle.pas_tree.specs.DenoterTrees as tree
use Rattle.core_program.specs.{ProgramRows.size_of, declared.rows.NameRow.NameRow, declared.rows.Row.Row, declared.rows.TypeRow.TypeRow}
use Rattle.check_steps.specs.{Known.Known, Known.and_region, Known.frame_at, Steps.◌>>=◌, Steps.Step, Steps.extend, Steps.look, declared.regions.Frame.Frame}
use Rattle.kind_checker.specs.{Sizes.capped, declared.types.Scope.Scope}
use Rattle.denoter_checker.specs.{Defines.define_record, Variants.choosing_at, Variants.nothing_listed}
use Rattle.denoter_checker.specs.Denoters.{arm_at, arm_chosen, arms_at, array_denoter, choosing_of, denoter, field_place, fields_at, fixed_at, joins}
use Rattle.denoter_checker.specs.Denoters.{more_choices, more_sections, open_record, other_indexes, part_at, put_record, scope_inside, section, structure}
use Rattle.denoter_checker.specs.Denoters.{variants_after, variants_at, variants_word}
use Rattle.denoter_checker.specs.declared.variants.{Choosing.Choosing, Listed.Listed, PartPlace.PartPlace}
use Rattle.rule_laws.proofs.{Breaks.Each, Breaks.both, LastsDefines.define_record-lasts, PlainConstants.constant-plain, TextFields.Spells, TextFields.spelling}
use Rattle.rule_laws.proofs.Plain.{Aim, Plain, Solely, bind-solely, each_name-plain, give-solely, look-solely, open_region-plain, put-plain}
use Rattle.rule_laws.proofs.PlainArrays.{array-plain, joined-plain, put_index-plain}
use Rattle.rule_laws.proofs.PlainTypes.{enumeration-plain, named_type-plain, ordinal-plain, pointer_type-plain, set_type-plain, subrange-plain}
use Rattle.rule_laws.proofs.PlainVariants.{arm_choices-plain, tag_part-plain, variant_part-plain}
use Rattle.rule_laws.specs.TextParts.{InArm, InArms, InArray, InFields, InFixed, InIndexes, InPart, InSection, InSections, InStructure, InVariants, OfRecords}

pub open_record-plain : {aim : Aim} (kept : Plain aim) (frame word : ℕ) → Solely aim (open_record frame word)
unfolding open_record
open_record-plain kept frame word = bind-solely (look-solely (λ k. (frame_at k frame).level)) (λ level. open_region-plain kept word (Some frame) level)

pub field_place-plain : {aim : Aim} (kept : Plain aim) (holder t offset token : ℕ)
    → Solely aim (field_place holder t offset token)
unfolding field_place
field_place-plain kept holder t offset token = bind-solely (put-plain kept token (Row.Name (NameRow.Field t offset holder)))
    (λ _. bind-solely (look-solely (λ k. size_of k.program t)) (λ cells. give-solely (capped (offset + cells))))

pub arm_chosen-plain : {aim : Aim} (kept : Plain aim) (c : Choosing) (l : Listed) (slot : ℕ) (arm : ArmTree)
    → Solely aim (arm_chosen c l slot arm)
arm_chosen-plain kept c l slot (tree.an_arm constants colon open' fields close) = arm_choices-plain kept c l slot open' constants

pub more_choices-plain : {aim : Aim} (kept : Plain aim) (c : Choosing) (l : Listed) (rest : ArmTrees)
    → Solely aim (more_choices c l rest)
more_choices-plain kept c l tree.end_of_arms = give-solely l
more_choices-plain kept c l (tree.more_arms semicolon arm rest) =
    bind-solely (arm_chosen-plain kept c l semicolon arm) (λ next. more_choices-plain kept c next rest)

pub choosing_of-plain : {aim : Aim} (kept : Plain aim) (p : PartPlace) (tag : Tag) (of_word : ℕ) (first : ArmTree)
    (others : ArmTrees) → Solely aim (choosing_of p tag of_word first others)
unfolding choosing_of
choosing_of-plain kept p tag of_word first others = bind-solely (tag_part-plain kept p tag.field tag.name)
    (λ host. bind-solely (arm_chosen-plain kept (choosing_at p host of_word) (nothing_listed p.word) of_word first)
    (λ one. more_choices-plain kept (choosing_at p host of_word) one others))

pub joins-plain : {aim : Aim} (kept : Plain aim) (packed : Bool) (t : ℕ) (next_denoter : DenoterTrees)
    → Solely aim (joins packed t next_denoter)
joins-plain kept packed t tree.end_of_denoters = give-solely t
joins-plain kept packed t (tree.more_denoters comma d rest) = bind-solely (joins-plain kept packed t rest) (λ inner. joined-plain kept packed inner comma)

-- ---- records

-- Of plain rules this holds, and of what is broken at the fields of a record of these, in its region, which is new.
pub record Records (aim : Aim) (R : FieldsTree → Type 0) : Type 0 where
  pub plain : Plain aim
  pub fields : (k : Known) (word : ℕ) (f : Frame) (x : FieldsTree) → f.region ≡ length k.regions → k.words ≡ aim.words → R x
      → Each aim.P (define_record (length k.frames) x (and_region k word f)).broken

pub put_record-plain : {aim : Aim} (kept : Plain aim) (packed : Bool) (word frame cells : ℕ) (variants : Option ℕ)
    → Solely aim (put_record packed word frame cells variants)
unfolding put_record
put_record-plain kept packed word frame cells variants = bind-solely (look-solely (λ k. (frame_at k frame).region)) (λ region.
    bind-solely (put-plain kept word (Row.Type (TypeRow.Record packed region cells variants))) (λ _. give-solely word))

record-told : {aim : Aim} {R : FieldsTree → Type 0} (kept : Records aim R) (around word : ℕ) (fields : FieldsTree) {A : Type 0} (rest : ℕ → Step A)
    → R fields → ((frame : ℕ) → Solely aim (rest frame)) → Solely aim (open_record around word >>= λ frame. define_record frame fields >>= λ _. rest frame)
unfolding open_record look extend ◌>>=◌
record-told {aim = aim} kept around word fields rest r h = record {
  same = λ k.
      let f : Frame = record { region = length k.regions; outer = Some around; level = (frame_at k around).level; withs = 0 } in
      let j = and_region k word f in
      let d = define_record (length k.frames) fields j in
      let still : Spells k d.known = (define_record-lasts (spelling k) (length k.frames) fields).of j (record { words = refl }) in
      (h (length k.frames)).same d.known ∙ still.words;
  of = λ k e.
      let f : Frame = record { region = length k.regions; outer = Some around; level = (frame_at k around).level; withs = 0 } in
      let j = and_region k word f in
      let d = define_record (length k.frames) fields j in
      let still : Spells k d.known = (define_record-lasts (spelling k) (length k.frames) fields).of j (record { words = refl }) in
      both aim.P d.broken (rest (length k.frames) d.known).broken (kept.fields k word f fields refl e r)
      ((h (length k.frames)).of d.known (still.words ∙ e));
}

mutual
  pub denoter-plain : {aim : Aim} {R : FieldsTree → Type 0} (kept : Records aim R) (s : Scope) (denoter' : DenoterTree) → OfRecords R denoter'
      → Solely aim (denoter s denoter')
  denoter-plain kept s (tree.a_type_name token) h = named_type-plain kept.plain s.frame token
  denoter-plain kept s (tree.an_enumeration e) h = enumeration-plain kept.plain e
  denoter-plain kept s (tree.a_subrange first dots last) h = bind-solely (constant-plain kept.plain s.frame first)
      (λ a. bind-solely (constant-plain kept.plain s.frame last) (λ b. subrange-plain kept.plain a dots b))
  denoter-plain kept s (tree.a_pointer caret name) h = pointer_type-plain kept.plain s caret name
  denoter-plain kept s (tree.a_structure packed x) h = structure-plain kept s (is_some packed) x h

  pub structure-plain : {aim : Aim} {R : FieldsTree → Type 0} (kept : Records aim R) (s : Scope) (packed : Bool) (structure' : StructureTree)
      → InStructure R structure' → Solely aim (structure s packed structure')
  structure-plain kept s packed (tree.an_array a) h = array_denoter-plain kept s packed a h
  structure-plain kept s packed (tree.a_record word fields end) h =
      record-told kept s.frame word fields _ h.0 (λ frame. bind-solely (fields_at-plain kept (scope_inside s frame) word 0 fields h.1)
      (λ cells. put_record-plain kept.plain packed word frame cells (variants_word fields)))
  structure-plain kept s packed (tree.a_set_type word of base) h = bind-solely (denoter-plain kept s base h)
      (λ written. set_type-plain kept.plain packed word (first_of_denoter base) of written)

  pub array_denoter-plain : {aim : Aim} {R : FieldsTree → Type 0} (kept : Records aim R) (s : Scope) (packed : Bool) (array_denoter' : ArrayTree)
      → InArray R array_denoter' → Solely aim (array_denoter s packed array_denoter')
  array_denoter-plain kept s packed (tree.index_types word open' first others close of component) h =
      bind-solely (denoter-plain kept s first h.0) (λ written. bind-solely (ordinal-plain kept.plain (first_of_denoter first) word written)
      (λ index. bind-solely (other_indexes-plain kept s word others h.1)
      (λ _. bind-solely (denoter-plain kept s component h.2) (λ t. bind-solely (joins-plain kept.plain packed t others)
      (λ inner. array-plain kept.plain packed open' index inner)))))

  pub other_indexes-plain : {aim : Aim} {R : FieldsTree → Type 0} (kept : Records aim R) (s : Scope) (word : ℕ) (next_denoter : DenoterTrees)
      → InIndexes R next_denoter → Solely aim (other_indexes s word next_denoter)
  other_indexes-plain kept s word tree.end_of_denoters h = give-solely tt
  other_indexes-plain kept s word (tree.more_denoters comma d rest) h =
      bind-solely (bind-solely (denoter-plain kept s d h.0) (λ written. bind-solely (ordinal-plain kept.plain (first_of_denoter d) word written)
      (λ index. put_index-plain kept.plain comma index))) (λ _. other_indexes-plain kept s word rest h.1)

  pub fields_at-plain : {aim : Aim} {R : FieldsTree → Type 0} (kept : Records aim R) (s : Scope) (holder offset : ℕ) (fields : FieldsTree)
      → InFields R fields → Solely aim (fields_at s holder offset fields)
  fields_at-plain kept s holder offset tree.without_fields h = give-solely offset
  fields_at-plain kept s holder offset (tree.fixed_fields fixed part last) h =
      bind-solely (fixed_at-plain kept s holder offset fixed h.0) (λ next. variants_after-plain kept s holder next part h.1)
  fields_at-plain kept s holder offset (tree.variant_fields variants last) h = variants_at-plain kept s holder offset variants h

  pub fixed_at-plain : {aim : Aim} {R : FieldsTree → Type 0} (kept : Records aim R) (s : Scope) (holder offset : ℕ) (fixed : FixedTree)
      → InFixed R fixed → Solely aim (fixed_at s holder offset fixed)
  fixed_at-plain kept s holder offset (tree.fixed_part first others) h =
      bind-solely (section-plain kept s holder offset first h.0) (λ next. more_sections-plain kept s holder next others h.1)

  pub section-plain : {aim : Aim} {R : FieldsTree → Type 0} (kept : Records aim R) (s : Scope) (holder offset : ℕ) (x : SectionTree)
      → InSection R x → Solely aim (section s holder offset x)
  section-plain kept s holder offset (tree.a_section names colon d) h =
      bind-solely (denoter-plain kept s d h) (λ t. each_name-plain (field_place holder t) offset names (λ a x. field_place-plain kept.plain holder t a x))

  pub more_sections-plain : {aim : Aim} {R : FieldsTree → Type 0} (kept : Records aim R) (s : Scope) (holder offset : ℕ) (rest : SectionTrees)
      → InSections R rest → Solely aim (more_sections s holder offset rest)
  more_sections-plain kept s holder offset tree.end_of_sections h = give-solely offset
  more_sections-plain kept s holder offset (tree.more_sections semicolon x rest) h =
      bind-solely (section-plain kept s holder offset x h.0) (λ next. more_sections-plain kept s holder next rest h.1)

  pub variants_after-plain : {aim : Aim} {R : FieldsTree → Type 0} (kept : Records aim R) (s : Scope) (holder offset : ℕ) (x : PartTree)
      → InPart R x → Solely aim (variants_after s holder offset x)
  variants_after-plain kept s holder offset tree.without_part h = give-solely offset
  variants_after-plain kept s holder offset (tree.a_part semicolon variants) h = variants_at-plain kept s holder offset variants h

  pub variants_at-plain : {aim : Aim} {R : FieldsTree → Type 0} (kept : Records aim R) (s : Scope) (holder offset : ℕ) (variants : VariantsTree)
      → InVariants R variants → Solely aim (variants_at s holder offset variants)
  variants_at-plain kept s holder offset (tree.arms word tag of_word first others) h =
      bind-solely (choosing_of-plain kept.plain (part_at s word holder offset) tag of_word first others)
      (λ _. bind-solely (arm_at-plain kept s (capped (offset + 1)) first h.0)
      (λ next. bind-solely (arms_at-plain kept s next others h.1) (λ end. variant_part-plain kept.plain (part_at s word holder offset) (is_none tag.field)
      of_word end)))

  pub arm_at-plain : {aim : Aim} {R : FieldsTree → Type 0} (kept : Records aim R) (s : Scope) (offset : ℕ) (arm : ArmTree)
      → InArm R arm → Solely aim (arm_at s offset arm)
  arm_at-plain kept s offset (tree.an_arm constants colon open' fields close) h = fields_at-plain kept s open' offset fields h

  pub arms_at-plain : {aim : Aim} {R : FieldsTree → Type 0} (kept : Records aim R) (s : Scope) (offset : ℕ) (rest : ArmTrees)
      → InArms R rest → Solely aim (arms_at s offset rest)
  arms_at-plain kept s offset tree.end_of_arms h = give-solely offset
  arms_at-plain kept s offset (tree.more_arms semicolon arm rest) h =
      bind-solely (arm_at-plain kept s offset arm h.0) (λ next. arms_at-plain kept s next rest h.1)
