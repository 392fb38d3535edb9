-- The names that denoters define: constants of enumerations in the region around, and fields in a record's region.
use Rattle.std.specs.Prelude.{ℕ, None, Option, Some}
use Rattle.pas_tree.specs.DenoterTrees.{ArmTree, ArmTrees, ArrayTree, DenoterTree, DenoterTrees, FieldsTree, FixedTree}
use Rattle.pas_tree.specs.DenoterTrees.{PartTree, SectionTree, SectionTrees, StructureTree, VariantsTree}
use Rattle.pas_tree.specs.DenoterTrees as tree
use Rattle.pas_tree.specs.declared.denoters.{NextArm.NextArm, NextDenoter.NextDenoter, TagField.TagField}
use Rattle.pas_tree.specs.declared.denoters.NextSection.{NextSection}
use Rattle.check_steps.specs.{Known.frame_at, Steps.◌>>=◌, Steps.Step, Steps.give, Steps.look}
use Rattle.kind_checker.specs.{Names.define_name, Names.each_name, declared.names.NameKind.NameKind}
use Rattle.denoter_checker.specs.declared.defines.Wanted.{Wanted}

-- the step for fields, or the one for enumerations
abbrev pub by : Wanted → Step (Unit {0}) → Step (Unit {0}) → Step (Unit {0})
by Wanted.Fields fields constants = fields
by Wanted.Constants fields constants = constants

abbrev pub define_field : ℕ → Option TagField → Step (Unit {0})
define_field region None = give tt
define_field region (Some f) = define_name region NameKind.Field tt f.name

abbrev pub define_tag : Wanted → ℕ → Option TagField → Step (Unit {0})
define_tag w region field = by w (define_field region field) (give tt)

abbrev mutual
  -- the constants of the enumerations in a type
  pub define_denoter : ℕ → DenoterTree → Step (Unit {0})
  define_denoter region (tree.a_type_name token) = give tt
  define_denoter region (tree.an_enumeration e) = each_name (define_name region NameKind.Constant) tt e.names
  define_denoter region (tree.a_subrange first dots last) = give tt
  define_denoter region (tree.a_pointer caret name) = give tt
  define_denoter region (tree.a_structure packed s) = define_structure region s

  pub define_structure : ℕ → StructureTree → Step (Unit {0})
  define_structure region (tree.an_array a) = define_array region a
  define_structure region (tree.a_record word fields last) = define_in_fields Wanted.Constants region fields
  define_structure region (tree.a_set_type word of_word base) = define_denoter region base

  pub define_array : ℕ → ArrayTree → Step (Unit {0})
  define_array region (tree.index_types word left first others right of_word component) = do
    _ ← define_denoter region first
    _ ← define_others region others
    define_denoter region component

  pub define_others : ℕ → DenoterTrees → Step (Unit {0})
  define_others region tree.end_of_denoters = give tt
  define_others region (tree.more_denoters comma d rest) = do
    _ ← define_denoter region d
    define_others region rest

  -- the names of fields, those of all variants too; or the constants of the enumerations in their types
  pub define_in_fields : Wanted → ℕ → FieldsTree → Step (Unit {0})
  define_in_fields w region tree.without_fields = give tt
  define_in_fields w region (tree.fixed_fields fixed part last) = do
    _ ← define_fixed w region fixed
    define_part w region part
  define_in_fields w region (tree.variant_fields variants last) = define_variants w region variants

  pub define_fixed : Wanted → ℕ → FixedTree → Step (Unit {0})
  define_fixed w region (tree.fixed_part first others) = do
    _ ← define_section w region first
    define_sections w region others

  pub define_section : Wanted → ℕ → SectionTree → Step (Unit {0})
  define_section w region (tree.a_section names colon d) =
      by w (each_name (define_name region NameKind.Field) tt names) (define_denoter region d)

  pub define_sections : Wanted → ℕ → SectionTrees → Step (Unit {0})
  define_sections w region tree.end_of_sections = give tt
  define_sections w region (tree.more_sections semicolon section rest) = do
    _ ← define_section w region section
    define_sections w region rest

  pub define_part : Wanted → ℕ → PartTree → Step (Unit {0})
  define_part w region tree.without_part = give tt
  define_part w region (tree.a_part semicolon variants) = define_variants w region variants

  pub define_variants : Wanted → ℕ → VariantsTree → Step (Unit {0})
  define_variants w region (tree.arms word tag of_word first others) = do
    _ ← define_tag w region tag.field
    _ ← define_arm w region first
    define_arms w region others

  pub define_arm : Wanted → ℕ → ArmTree → Step (Unit {0})
  define_arm w region (tree.an_arm constants colon left fields right) = define_in_fields w region fields

  pub define_arms : Wanted → ℕ → ArmTrees → Step (Unit {0})
  define_arms w region tree.end_of_arms = give tt
  define_arms w region (tree.more_arms semicolon arm rest) = do
    _ ← define_arm w region arm
    define_arms w region rest

-- ---- one more of what the code holds

unfoldable pub define_other : ℕ → Unit {0} → NextDenoter → Step (Unit {0})
define_other region u n = define_denoter region (tree.denoter_tree n.denoter)

unfoldable pub define_next_section : Wanted → ℕ → Unit {0} → NextSection → Step (Unit {0})
define_next_section w region u n = define_section w region (tree.section_tree n.section)

unfoldable pub define_next_arm : Wanted → ℕ → Unit {0} → NextArm → Step (Unit {0})
define_next_arm w region u n = define_in_fields w region (tree.fields_tree n.arm.fields)

-- the fields of a record, in the region of its frame
unfoldable pub define_record : ℕ → FieldsTree → Step (Unit {0})
define_record frame fields = do
  region ← look (λ k. (frame_at k frame).region)
  define_in_fields Wanted.Fields region fields
