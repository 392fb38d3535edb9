-- What the steps of `Rattle.denoter_checker.specs.Denoters` leave as it was.
use Rattle.std.proofs.Common.{◌+◌, ℕ, Bool, Some, is_none, is_some, refl}
use Rattle.pas_tree.specs.{BlockTrees.RoutineTree, DenoterPlaces.first_of_denoter, declared.denoters.Tag.Tag}
use Rattle.pas_tree.specs.DenoterTrees.{ArmTree, ArmTrees, ArrayTree, DenoterTree, DenoterTrees, FieldsTree, FixedTree, PartTree, SectionTree, SectionTrees}
use Rattle.pas_tree.specs.DenoterTrees.{StructureTree, VariantsTree}
use Rattle.pas_tree.specs.DenoterTrees as tree
use Rattle.core_program.specs.{ProgramRows.size_of, declared.rows.NameRow.NameRow, declared.rows.Row.Row}
use Rattle.check_steps.specs.Known.{Known, frame_at}
use Rattle.kind_checker.specs.{Sizes.capped, declared.types.Scope.Scope}
use Rattle.denoter_checker.specs.{Defines.define_record, Denoters.variants_at, Denoters.variants_word, Variants.choosing_at, Variants.nothing_listed}
use Rattle.denoter_checker.specs.Denoters.{arm_at, arm_chosen, arms_at, array_denoter, choosing_of, denoter, field_place, fields_at, fixed_at, joins}
use Rattle.denoter_checker.specs.Denoters.{more_choices, more_sections, open_record, other_indexes, part_at, scope_inside, section, structure, variants_after}
use Rattle.denoter_checker.specs.declared.variants.{Choosing.Choosing, Listed.Listed, PartPlace.PartPlace}
use Rattle.rule_laws.proofs.{Keeping.Keeps, Keeping.bind-keeps, Keeping.give-keeps, Keeping.look-keeps, Lasting.Lasting, Lasting.each_name-lasts}
use Rattle.rule_laws.proofs.{Lasting.open_region-lasts, Lasting.put-lasts, LastsArrays.array-lasts, LastsArrays.joined-lasts, LastsArrays.put_index-lasts}
use Rattle.rule_laws.proofs.{LastsConstants.constant-lasts, LastsDefines.define_record-lasts, Standing.opened_lasts, Standing.record-made}
use Rattle.rule_laws.proofs.LastsTypes.{enumeration-lasts, named_type-lasts, ordinal-lasts, pointer_type-lasts, set_type-lasts, subrange-lasts}
use Rattle.rule_laws.proofs.LastsVariants.{arm_choices-lasts, tag_part-lasts, variant_part-lasts}

pub open_record-lasts : {G : RoutineTree → Type 0} {I : Known → Type 0} (kept : Lasting G I) (frame word : ℕ) → Keeps I (open_record frame word)
unfolding open_record
open_record-lasts kept frame word = bind-keeps (look-keeps (λ k. (frame_at k frame).level)) (λ level. open_region-lasts kept word (Some frame) level)

pub field_place-lasts : {G : RoutineTree → Type 0} {I : Known → Type 0} (kept : Lasting G I) (holder t offset token : ℕ)
    → Keeps I (field_place holder t offset token)
unfolding field_place
field_place-lasts kept holder t offset token = bind-keeps (put-lasts kept token (Row.Name (NameRow.Field t offset holder)) refl)
    (λ _. bind-keeps (look-keeps (λ k. size_of k.program t)) (λ cells. give-keeps (capped (offset + cells))))

pub arm_chosen-lasts : {G : RoutineTree → Type 0} {I : Known → Type 0} (kept : Lasting G I) (c : Choosing) (l : Listed) (slot : ℕ) (arm : ArmTree)
    → Keeps I (arm_chosen c l slot arm)
arm_chosen-lasts kept c l slot (tree.an_arm constants colon open' fields close) = arm_choices-lasts kept c l slot open' constants

pub more_choices-lasts : {G : RoutineTree → Type 0} {I : Known → Type 0} (kept : Lasting G I) (c : Choosing) (l : Listed) (rest : ArmTrees)
    → Keeps I (more_choices c l rest)
more_choices-lasts kept c l tree.end_of_arms = give-keeps l
more_choices-lasts kept c l (tree.more_arms semicolon arm rest) =
    bind-keeps (arm_chosen-lasts kept c l semicolon arm) (λ next. more_choices-lasts kept c next rest)

pub choosing_of-lasts : {G : RoutineTree → Type 0} {I : Known → Type 0} (kept : Lasting G I) (p : PartPlace) (tag : Tag) (of_word : ℕ) (first : ArmTree)
    (others : ArmTrees) → Keeps I (choosing_of p tag of_word first others)
unfolding choosing_of
choosing_of-lasts kept p tag of_word first others = bind-keeps (tag_part-lasts kept p tag.field tag.name)
    (λ host. bind-keeps (arm_chosen-lasts kept (choosing_at p host of_word) (nothing_listed p.word) of_word first)
    (λ one. more_choices-lasts kept (choosing_at p host of_word) one others))

pub joins-lasts : {G : RoutineTree → Type 0} {I : Known → Type 0} (kept : Lasting G I) (packed : Bool) (t : ℕ) (next_denoter : DenoterTrees)
    → Keeps I (joins packed t next_denoter)
joins-lasts kept packed t tree.end_of_denoters = give-keeps t
joins-lasts kept packed t (tree.more_denoters comma d rest) = bind-keeps (joins-lasts kept packed t rest) (λ inner. joined-lasts kept packed inner comma)

mutual
  pub denoter-lasts : {G : RoutineTree → Type 0} {I : Known → Type 0} (kept : Lasting G I) (s : Scope) (denoter' : DenoterTree) → Keeps I (denoter s denoter')
  denoter-lasts kept s (tree.a_type_name token) = named_type-lasts kept s.frame token
  denoter-lasts kept s (tree.an_enumeration e) = enumeration-lasts kept e
  denoter-lasts kept s (tree.a_subrange first dots last) = bind-keeps (constant-lasts kept s.frame first)
      (λ a. bind-keeps (constant-lasts kept s.frame last) (λ b. subrange-lasts kept a dots b))
  denoter-lasts kept s (tree.a_pointer caret name) = pointer_type-lasts kept s caret name
  denoter-lasts kept s (tree.a_structure packed x) = structure-lasts kept s (is_some packed) x

  pub structure-lasts : {G : RoutineTree → Type 0} {I : Known → Type 0} (kept : Lasting G I) (s : Scope) (packed : Bool) (structure' : StructureTree)
      → Keeps I (structure s packed structure')
  structure-lasts kept s packed (tree.an_array a) = array_denoter-lasts kept s packed a
  structure-lasts kept s packed (tree.a_record word fields end) =
      record-made kept s.frame word packed (variants_word fields) (λ n. define_record n fields) (λ n. fields_at (scope_inside s n) word 0 fields)
      (λ n f. define_record-lasts (opened_lasts kept n f) n fields) (λ n f. fields_at-lasts (opened_lasts kept n f) (scope_inside s n) word 0 fields)
  structure-lasts kept s packed (tree.a_set_type word of base) = bind-keeps (denoter-lasts kept s base)
      (λ written. set_type-lasts kept packed word (first_of_denoter base) of written)

  pub array_denoter-lasts : {G : RoutineTree → Type 0} {I : Known → Type 0} (kept : Lasting G I) (s : Scope) (packed : Bool) (array_denoter' : ArrayTree)
      → Keeps I (array_denoter s packed array_denoter')
  array_denoter-lasts kept s packed (tree.index_types word open' first others close of component) =
      bind-keeps (denoter-lasts kept s first) (λ written. bind-keeps (ordinal-lasts kept (first_of_denoter first) word written)
      (λ index. bind-keeps (other_indexes-lasts kept s word others)
      (λ _. bind-keeps (denoter-lasts kept s component) (λ t. bind-keeps (joins-lasts kept packed t others)
      (λ inner. array-lasts kept packed open' index inner)))))

  pub other_indexes-lasts : {G : RoutineTree → Type 0} {I : Known → Type 0} (kept : Lasting G I) (s : Scope) (word : ℕ) (next_denoter : DenoterTrees)
      → Keeps I (other_indexes s word next_denoter)
  other_indexes-lasts kept s word tree.end_of_denoters = give-keeps tt
  other_indexes-lasts kept s word (tree.more_denoters comma d rest) =
      bind-keeps (bind-keeps (denoter-lasts kept s d) (λ written. bind-keeps (ordinal-lasts kept (first_of_denoter d) word written)
      (λ index. put_index-lasts kept comma index))) (λ _. other_indexes-lasts kept s word rest)

  pub fields_at-lasts : {G : RoutineTree → Type 0} {I : Known → Type 0} (kept : Lasting G I) (s : Scope) (holder offset : ℕ) (fields : FieldsTree)
      → Keeps I (fields_at s holder offset fields)
  fields_at-lasts kept s holder offset tree.without_fields = give-keeps offset
  fields_at-lasts kept s holder offset (tree.fixed_fields fixed part last) =
      bind-keeps (fixed_at-lasts kept s holder offset fixed) (λ next. variants_after-lasts kept s holder next part)
  fields_at-lasts kept s holder offset (tree.variant_fields variants last) = variants_at-lasts kept s holder offset variants

  pub fixed_at-lasts : {G : RoutineTree → Type 0} {I : Known → Type 0} (kept : Lasting G I) (s : Scope) (holder offset : ℕ) (fixed : FixedTree)
      → Keeps I (fixed_at s holder offset fixed)
  fixed_at-lasts kept s holder offset (tree.fixed_part first others) =
      bind-keeps (section-lasts kept s holder offset first) (λ next. more_sections-lasts kept s holder next others)

  pub section-lasts : {G : RoutineTree → Type 0} {I : Known → Type 0} (kept : Lasting G I) (s : Scope) (holder offset : ℕ) (x : SectionTree)
      → Keeps I (section s holder offset x)
  section-lasts kept s holder offset (tree.a_section names colon d) =
      bind-keeps (denoter-lasts kept s d) (λ t. each_name-lasts (field_place holder t) offset names (λ a x. field_place-lasts kept holder t a x))

  pub more_sections-lasts : {G : RoutineTree → Type 0} {I : Known → Type 0} (kept : Lasting G I) (s : Scope) (holder offset : ℕ) (rest : SectionTrees)
      → Keeps I (more_sections s holder offset rest)
  more_sections-lasts kept s holder offset tree.end_of_sections = give-keeps offset
  more_sections-lasts kept s holder offset (tree.more_sections semicolon x rest) =
      bind-keeps (section-lasts kept s holder offset x) (λ next. more_sections-lasts kept s holder next rest)

  pub variants_after-lasts : {G : RoutineTree → Type 0} {I : Known → Type 0} (kept : Lasting G I) (s : Scope) (holder offset : ℕ) (x : PartTree)
      → Keeps I (variants_after s holder offset x)
  variants_after-lasts kept s holder offset tree.without_part = give-keeps offset
  variants_after-lasts kept s holder offset (tree.a_part semicolon variants) = variants_at-lasts kept s holder offset variants

  pub variants_at-lasts : {G : RoutineTree → Type 0} {I : Known → Type 0} (kept : Lasting G I) (s : Scope) (holder offset : ℕ) (variants : VariantsTree)
      → Keeps I (variants_at s holder offset variants)
  variants_at-lasts kept s holder offset (tree.arms word tag of_word first others) =
      bind-keeps (choosing_of-lasts kept (part_at s word holder offset) tag of_word first others)
      (λ _. bind-keeps (arm_at-lasts kept s (capped (offset + 1)) first)
      (λ next. bind-keeps (arms_at-lasts kept s next others) (λ end. variant_part-lasts kept (part_at s word holder offset) (is_none tag.field) of_word end)))

  pub arm_at-lasts : {G : RoutineTree → Type 0} {I : Known → Type 0} (kept : Lasting G I) (s : Scope) (offset : ℕ) (arm : ArmTree)
      → Keeps I (arm_at s offset arm)
  arm_at-lasts kept s offset (tree.an_arm constants colon open' fields close) = fields_at-lasts kept s open' offset fields

  pub arms_at-lasts : {G : RoutineTree → Type 0} {I : Known → Type 0} (kept : Lasting G I) (s : Scope) (offset : ℕ) (rest : ArmTrees)
      → Keeps I (arms_at s offset rest)
  arms_at-lasts kept s offset tree.end_of_arms = give-keeps offset
  arms_at-lasts kept s offset (tree.more_arms semicolon arm rest) = bind-keeps (arm_at-lasts kept s offset arm) (λ next. arms_at-lasts kept s next rest)
