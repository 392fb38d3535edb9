-- What the steps of `Rattle.denoter_checker.specs.Defines` keep.
use Rattle.std.proofs.Common.{ℕ, Bool, None, Option, Some, false}
use Rattle.grammar.specs.Nodes.{Node}
use Rattle.pas_tree.specs.{DenoterTrees.StructureTree, DenoterTrees.VariantsTree, Denoters.last_semicolon_node, Denoters.tag_rest_node, TreeNodes.sections_node}
use Rattle.pas_tree.specs.{TreeNodes.structure_node, TreeNodes.variants_node, declared.denoters.TagField.TagField}
use Rattle.pas_tree.specs.DenoterTrees.{ArmTree, ArmTrees, ArrayTree, DenoterTree, DenoterTrees, FieldsTree, FixedTree, PartTree, SectionTree, SectionTrees}
use Rattle.pas_tree.specs.DenoterTrees as tree
use Rattle.pas_tree.specs.TreeNodes.{arm_node, arms_node, array_node, denoter_node, denoters_node, fields_node, fixed_node, next_variants_node, section_node}
use Rattle.check_steps.specs.{Known.frame_at, Steps.Step, Steps.give}
use Rattle.kind_checker.specs.{Names.define_name, Names.each_name, declared.names.NameKind.NameKind}
use Rattle.denoter_checker.specs.{Defines.define_variants, declared.defines.Wanted.Wanted}
use Rattle.denoter_checker.specs.Defines.{by, define_arm, define_arms, define_array, define_denoter, define_field, define_fixed, define_in_fields}
use Rattle.denoter_checker.specs.Defines.{define_others, define_part, define_record, define_section, define_sections, define_structure, define_tag}
use Rattle.code_checker.proofs.{KindNames.define_name-holds, KindNames.each_name-holds, TokenPlaces.fixed_end, Within.Within}
use Rattle.code_checker.proofs.Steps.{Holds, bind-holds, give-holds, look-holds}

pub by-holds : {size : ℕ} {later : Bool} (x_wanted : Wanted) (fields : Step (Unit {0})) (constants : Step (Unit {0})) → Holds size later fields
    → Holds size later constants → Holds size later (by x_wanted fields constants)
by-holds Wanted.Fields fields constants fields-in constants-in = fields-in
by-holds Wanted.Constants fields constants fields-in constants-in = constants-in

pub define_field-holds : {size : ℕ} (region : ℕ) (tag_field : Option TagField) (name : ℕ) → Within size (tag_rest_node tag_field name)
    → Holds size false (define_field region tag_field)
define_field-holds region None name tag_field-in = give-holds tt
define_field-holds region (Some f) name tag_field-in = define_name-holds region NameKind.Field tt f.name tag_field-in.0

pub define_tag-holds : {size : ℕ} (w : Wanted) (region : ℕ) (field : Option TagField) (name : ℕ) → Within size (tag_rest_node field name)
    → Holds size false (define_tag w region field)
define_tag-holds w region field name field-in =
    by-holds w (define_field region field) (give tt) (define_field-holds region field name field-in) (give-holds tt)

mutual
  pub define_denoter-holds : {size : ℕ} (region : ℕ) (denoter : DenoterTree) → Within size (denoter_node denoter)
      → Holds size false (define_denoter region denoter)
  define_denoter-holds region (tree.a_type_name token) denoter-in = give-holds tt
  define_denoter-holds region (tree.an_enumeration e) denoter-in = each_name-holds (define_name region NameKind.Constant) tt e.names (λ a x h.
      define_name-holds region NameKind.Constant a x h) denoter-in.1.0
  define_denoter-holds region (tree.a_subrange first dots last) denoter-in = give-holds tt
  define_denoter-holds region (tree.a_pointer caret name) denoter-in = give-holds tt
  define_denoter-holds region (tree.a_structure packed s) denoter-in = define_structure-holds region s denoter-in.1

  pub define_structure-holds : {size : ℕ} (region : ℕ) (structure : StructureTree) → Within size (structure_node structure)
      → Holds size false (define_structure region structure)
  define_structure-holds region (tree.an_array a) structure-in = define_array-holds region a structure-in
  define_structure-holds region (tree.a_record word fields end) structure-in = define_in_fields-holds Wanted.Constants region fields structure-in.1.0
  define_structure-holds region (tree.a_set_type word of base) structure-in = define_denoter-holds region base structure-in.1.1

  pub define_array-holds : {size : ℕ} (region : ℕ) (array_denoter : ArrayTree) → Within size (array_node array_denoter)
      → Holds size false (define_array region array_denoter)
  define_array-holds region (tree.index_types word open' first others close of component) array_denoter-in =
      bind-holds (define_denoter-holds region first array_denoter-in.1.1.0) (λ _. bind-holds (define_others-holds region others array_denoter-in.1.1.1.0)
      (λ _. define_denoter-holds region component array_denoter-in.1.1.1.1.1.1))

  pub define_others-holds : {size : ℕ} (region : ℕ) (next_denoter : DenoterTrees) → Within size (denoters_node next_denoter)
      → Holds size false (define_others region next_denoter)
  define_others-holds region tree.end_of_denoters next_denoter-in = give-holds tt
  define_others-holds region (tree.more_denoters comma d rest) next_denoter-in = bind-holds (define_denoter-holds region d next_denoter-in.0.1) (λ _.
      define_others-holds region rest next_denoter-in.1)

  pub define_in_fields-holds : {size : ℕ} (w : Wanted) (region : ℕ) (fields : FieldsTree) → Within size (fields_node fields)
      → Holds size false (define_in_fields w region fields)
  define_in_fields-holds w region tree.without_fields fields-in = give-holds tt
  define_in_fields-holds {size = size} w region (tree.fixed_fields fixed part last) fields-in =
      bind-holds (define_fixed-holds w region fixed (next_variants_node part last) fields-in) (λ _.
      define_part-holds w region part last (fixed_end size fixed (next_variants_node part last) fields-in))
  define_in_fields-holds w region (tree.variant_fields variants last) fields-in = define_variants-holds w region variants last fields-in

  pub define_fixed-holds : {size : ℕ} (w : Wanted) (region : ℕ) (fixed : FixedTree) (end : Node) → Within size (fixed_node fixed end)
      → Holds size false (define_fixed w region fixed)
  define_fixed-holds w region (tree.fixed_part first others) end fixed-in =
      bind-holds (define_section-holds w region first fixed-in.0) (λ _. define_sections-holds w region others end fixed-in.1)

  pub define_section-holds : {size : ℕ} (w : Wanted) (region : ℕ) (section : SectionTree) → Within size (section_node section)
      → Holds size false (define_section w region section)
  define_section-holds w region (tree.a_section names colon d) section-in =
      by-holds w (each_name (define_name region NameKind.Field) tt names) (define_denoter region d)
      (each_name-holds (define_name region NameKind.Field) tt names (λ a x h. define_name-holds region NameKind.Field a x h) section-in.0)
      (define_denoter-holds region d section-in.1.1)

  pub define_sections-holds : {size : ℕ} (w : Wanted) (region : ℕ) (rest : SectionTrees) (end : Node) → Within size (sections_node rest end)
      → Holds size false (define_sections w region rest)
  define_sections-holds w region tree.end_of_sections end rest-in = give-holds tt
  define_sections-holds w region (tree.more_sections semicolon section rest) end rest-in =
      bind-holds (define_section-holds w region section rest-in.1.0) (λ _. define_sections-holds w region rest end rest-in.1.1)

  pub define_part-holds : {size : ℕ} (w : Wanted) (region : ℕ) (x : PartTree) (last : Option ℕ) → Within size (next_variants_node x last)
      → Holds size false (define_part w region x)
  define_part-holds w region tree.without_part last x-in = give-holds tt
  define_part-holds w region (tree.a_part semicolon variants) last x-in = define_variants-holds w region variants last x-in.1

  pub define_variants-holds : {size : ℕ} (w : Wanted) (region : ℕ) (variants : VariantsTree) (last : Option ℕ) → Within size (variants_node variants last)
      → Holds size false (define_variants w region variants)
  define_variants-holds w region (tree.arms word tag of_word first others) last variants-in =
      bind-holds (define_tag-holds w region tag.field tag.name variants-in.1.0) (λ _.
      bind-holds (define_arm-holds w region first variants-in.1.1.1.0) (λ _.
      define_arms-holds w region others (last_semicolon_node last) variants-in.1.1.1.1))

  pub define_arm-holds : {size : ℕ} (w : Wanted) (region : ℕ) (arm : ArmTree) → Within size (arm_node arm) → Holds size false (define_arm w region arm)
  define_arm-holds w region (tree.an_arm constants colon open' fields close) arm-in = define_in_fields-holds w region fields arm-in.1.1.1.0

  pub define_arms-holds : {size : ℕ} (w : Wanted) (region : ℕ) (rest : ArmTrees) (end : Node) → Within size (arms_node rest end)
      → Holds size false (define_arms w region rest)
  define_arms-holds w region tree.end_of_arms end rest-in = give-holds tt
  define_arms-holds w region (tree.more_arms semicolon arm rest) end rest-in =
      bind-holds (define_arm-holds w region arm rest-in.1.0) (λ _. define_arms-holds w region rest end rest-in.1.1)

pub define_record-holds : {size : ℕ} (frame : ℕ) (fields : FieldsTree) → Within size (fields_node fields) → Holds size false (define_record frame fields)
unfolding define_record
define_record-holds frame fields fields-in = bind-holds (look-holds (λ k. (frame_at k frame).region)) (λ region.
    define_in_fields-holds Wanted.Fields region fields fields-in)
