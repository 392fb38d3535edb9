-- What the steps of `Rattle.denoter_checker.specs.Defines` leave as it was.
use Rattle.std.proofs.Common.{ℕ, None, Option, Some}
use Rattle.pas_tree.specs.{BlockTrees.RoutineTree, DenoterTrees.StructureTree, DenoterTrees.VariantsTree, declared.denoters.TagField.TagField}
use Rattle.pas_tree.specs.DenoterTrees.{ArmTree, ArmTrees, ArrayTree, DenoterTree, DenoterTrees, FieldsTree, FixedTree, PartTree, SectionTree, SectionTrees}
use Rattle.pas_tree.specs.DenoterTrees as tree
use Rattle.check_steps.specs.{Known.Known, Known.frame_at, Steps.give}
use Rattle.kind_checker.specs.{Names.define_name, Names.each_name, declared.names.NameKind.NameKind}
use Rattle.denoter_checker.specs.Defines.{define_arm, define_arms, define_array, define_denoter, define_field, define_fixed, define_in_fields, define_others}
use Rattle.denoter_checker.specs.Defines.{define_part, define_record, define_section, define_sections, define_structure, define_tag, define_variants}
use Rattle.denoter_checker.specs.declared.defines.Wanted.{Wanted}
use Rattle.rule_laws.proofs.{Lasting.Lasting, Lasting.by-lasts, Lasting.each_name-lasts, LastsNameLists.define_name-lasts}
use Rattle.rule_laws.proofs.Keeping.{Keeps, bind-keeps, give-keeps, look-keeps}

pub define_field-lasts : {G : RoutineTree → Type 0} {I : Known → Type 0} (kept : Lasting G I) (region : ℕ) (tag_field : Option TagField)
    → Keeps I (define_field region tag_field)
define_field-lasts kept region None = give-keeps tt
define_field-lasts kept region (Some f) = define_name-lasts kept region NameKind.Field tt f.name

pub define_tag-lasts : {G : RoutineTree → Type 0} {I : Known → Type 0} (kept : Lasting G I) (w : Wanted) (region : ℕ) (field : Option TagField)
    → Keeps I (define_tag w region field)
define_tag-lasts kept w region field = by-lasts w (define_field region field) (give tt) (define_field-lasts kept region field) (give-keeps tt)

mutual
  pub define_denoter-lasts : {G : RoutineTree → Type 0} {I : Known → Type 0} (kept : Lasting G I) (region : ℕ) (denoter : DenoterTree)
      → Keeps I (define_denoter region denoter)
  define_denoter-lasts kept region (tree.a_type_name token) = give-keeps tt
  define_denoter-lasts kept region (tree.an_enumeration e) = each_name-lasts (define_name region NameKind.Constant) tt e.names
      (λ a x. define_name-lasts kept region NameKind.Constant a x)
  define_denoter-lasts kept region (tree.a_subrange first dots last) = give-keeps tt
  define_denoter-lasts kept region (tree.a_pointer caret name) = give-keeps tt
  define_denoter-lasts kept region (tree.a_structure packed s) = define_structure-lasts kept region s

  pub define_structure-lasts : {G : RoutineTree → Type 0} {I : Known → Type 0} (kept : Lasting G I) (region : ℕ) (structure : StructureTree)
      → Keeps I (define_structure region structure)
  define_structure-lasts kept region (tree.an_array a) = define_array-lasts kept region a
  define_structure-lasts kept region (tree.a_record word fields end) = define_in_fields-lasts kept Wanted.Constants region fields
  define_structure-lasts kept region (tree.a_set_type word of base) = define_denoter-lasts kept region base

  pub define_array-lasts : {G : RoutineTree → Type 0} {I : Known → Type 0} (kept : Lasting G I) (region : ℕ) (array_denoter : ArrayTree)
      → Keeps I (define_array region array_denoter)
  define_array-lasts kept region (tree.index_types word open' first others close of component) =
      bind-keeps (define_denoter-lasts kept region first) (λ _. bind-keeps (define_others-lasts kept region others)
      (λ _. define_denoter-lasts kept region component))

  pub define_others-lasts : {G : RoutineTree → Type 0} {I : Known → Type 0} (kept : Lasting G I) (region : ℕ) (next_denoter : DenoterTrees)
      → Keeps I (define_others region next_denoter)
  define_others-lasts kept region tree.end_of_denoters = give-keeps tt
  define_others-lasts kept region (tree.more_denoters comma d rest) =
      bind-keeps (define_denoter-lasts kept region d) (λ _. define_others-lasts kept region rest)

  pub define_in_fields-lasts : {G : RoutineTree → Type 0} {I : Known → Type 0} (kept : Lasting G I) (w : Wanted) (region : ℕ) (fields : FieldsTree)
      → Keeps I (define_in_fields w region fields)
  define_in_fields-lasts kept w region tree.without_fields = give-keeps tt
  define_in_fields-lasts kept w region (tree.fixed_fields fixed part last) =
      bind-keeps (define_fixed-lasts kept w region fixed) (λ _. define_part-lasts kept w region part)
  define_in_fields-lasts kept w region (tree.variant_fields variants last) = define_variants-lasts kept w region variants

  pub define_fixed-lasts : {G : RoutineTree → Type 0} {I : Known → Type 0} (kept : Lasting G I) (w : Wanted) (region : ℕ) (fixed : FixedTree)
      → Keeps I (define_fixed w region fixed)
  define_fixed-lasts kept w region (tree.fixed_part first others) =
      bind-keeps (define_section-lasts kept w region first) (λ _. define_sections-lasts kept w region others)

  pub define_section-lasts : {G : RoutineTree → Type 0} {I : Known → Type 0} (kept : Lasting G I) (w : Wanted) (region : ℕ) (section : SectionTree)
      → Keeps I (define_section w region section)
  define_section-lasts kept w region (tree.a_section names colon d) =
      by-lasts w (each_name (define_name region NameKind.Field) tt names) (define_denoter region d)
      (each_name-lasts (define_name region NameKind.Field) tt names (λ a x. define_name-lasts kept region NameKind.Field a x))
      (define_denoter-lasts kept region d)

  pub define_sections-lasts : {G : RoutineTree → Type 0} {I : Known → Type 0} (kept : Lasting G I) (w : Wanted) (region : ℕ) (rest : SectionTrees)
      → Keeps I (define_sections w region rest)
  define_sections-lasts kept w region tree.end_of_sections = give-keeps tt
  define_sections-lasts kept w region (tree.more_sections semicolon section rest) =
      bind-keeps (define_section-lasts kept w region section) (λ _. define_sections-lasts kept w region rest)

  pub define_part-lasts : {G : RoutineTree → Type 0} {I : Known → Type 0} (kept : Lasting G I) (w : Wanted) (region : ℕ) (x : PartTree)
      → Keeps I (define_part w region x)
  define_part-lasts kept w region tree.without_part = give-keeps tt
  define_part-lasts kept w region (tree.a_part semicolon variants) = define_variants-lasts kept w region variants

  pub define_variants-lasts : {G : RoutineTree → Type 0} {I : Known → Type 0} (kept : Lasting G I) (w : Wanted) (region : ℕ) (variants : VariantsTree)
      → Keeps I (define_variants w region variants)
  define_variants-lasts kept w region (tree.arms word tag of_word first others) =
      bind-keeps (define_tag-lasts kept w region tag.field) (λ _. bind-keeps (define_arm-lasts kept w region first)
      (λ _. define_arms-lasts kept w region others))

  pub define_arm-lasts : {G : RoutineTree → Type 0} {I : Known → Type 0} (kept : Lasting G I) (w : Wanted) (region : ℕ) (arm : ArmTree)
      → Keeps I (define_arm w region arm)
  define_arm-lasts kept w region (tree.an_arm constants colon open' fields close) = define_in_fields-lasts kept w region fields

  pub define_arms-lasts : {G : RoutineTree → Type 0} {I : Known → Type 0} (kept : Lasting G I) (w : Wanted) (region : ℕ) (rest : ArmTrees)
      → Keeps I (define_arms w region rest)
  define_arms-lasts kept w region tree.end_of_arms = give-keeps tt
  define_arms-lasts kept w region (tree.more_arms semicolon arm rest) =
      bind-keeps (define_arm-lasts kept w region arm) (λ _. define_arms-lasts kept w region rest)

pub define_record-lasts : {G : RoutineTree → Type 0} {I : Known → Type 0} (kept : Lasting G I) (frame : ℕ) (fields : FieldsTree)
    → Keeps I (define_record frame fields)
unfolding define_record
define_record-lasts kept frame fields = bind-keeps (look-keeps (λ k. (frame_at k frame).region))
    (λ region. define_in_fields-lasts kept Wanted.Fields region fields)
