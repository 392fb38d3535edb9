-- What the steps of `Rattle.denoter_checker.specs.Defines` leave at other tokens.
use Rattle.std.proofs.Common.{ℕ, None, Option, Some}
use Rattle.grammar.specs.Nodes.{Node}
use Rattle.pas_tree.specs.{DenoterTrees.StructureTree, DenoterTrees.VariantsTree, Denoters.last_semicolon_node, Denoters.tag_rest_node, TreeNodes.sections_node}
use Rattle.pas_tree.specs.{TreeNodes.structure_node, TreeNodes.variants_node, declared.denoters.TagField.TagField}
use Rattle.pas_tree.specs.DenoterTrees.{ArmTree, ArmTrees, ArrayTree, DenoterTree, DenoterTrees, FieldsTree, FixedTree, PartTree, SectionTree, SectionTrees}
use Rattle.pas_tree.specs.DenoterTrees as tree
use Rattle.pas_tree.specs.TreeNodes.{arm_node, arms_node, array_node, denoter_node, denoters_node, fields_node, fixed_node, next_variants_node, section_node}
use Rattle.check_steps.specs.{Known.frame_at, Steps.Step, Steps.give}
use Rattle.kind_checker.specs.{Names.define_name, Names.each_name, declared.names.NameKind.NameKind}
use Rattle.denoter_checker.specs.{Defines.define_variants, declared.defines.Wanted.Wanted}
use Rattle.denoter_checker.specs.Defines.{by, define_arm, define_arms, define_array, define_denoter, define_field, define_fixed, define_in_fields}
use Rattle.denoter_checker.specs.Defines.{define_others, define_part, define_record, define_section, define_sections, define_structure, define_tag}
use Rattle.rule_laws.proofs.{Every.Every, LeavesNameLists.define_name-leaves, LeavesNameLists.each_name-leaves, LeavesPlaces.fixed_end}
use Rattle.rule_laws.proofs.Leaves.{Leaves, bind-leaves, give-leaves, look-leaves}

pub by-leaves : {Q : ℕ → Type 0} (x_wanted : Wanted) (fields : Step (Unit {0})) (constants : Step (Unit {0})) → Leaves Q fields
    → Leaves Q constants → Leaves Q (by x_wanted fields constants)
by-leaves Wanted.Fields fields constants fields-in constants-in = fields-in
by-leaves Wanted.Constants fields constants fields-in constants-in = constants-in

pub define_field-leaves : {Q : ℕ → Type 0} (region : ℕ) (tag_field : Option TagField) (name : ℕ) → Every Q (tag_rest_node tag_field name)
    → Leaves Q (define_field region tag_field)
define_field-leaves region None name tag_field-in = give-leaves tt
define_field-leaves region (Some f) name tag_field-in = define_name-leaves region NameKind.Field tt f.name tag_field-in.0

pub define_tag-leaves : {Q : ℕ → Type 0} (w : Wanted) (region : ℕ) (field : Option TagField) (name : ℕ) → Every Q (tag_rest_node field name)
    → Leaves Q (define_tag w region field)
define_tag-leaves w region field name field-in =
    by-leaves w (define_field region field) (give tt) (define_field-leaves region field name field-in) (give-leaves tt)

mutual
  pub define_denoter-leaves : {Q : ℕ → Type 0} (region : ℕ) (denoter : DenoterTree) → Every Q (denoter_node denoter)
      → Leaves Q (define_denoter region denoter)
  define_denoter-leaves region (tree.a_type_name token) denoter-in = give-leaves tt
  define_denoter-leaves region (tree.an_enumeration e) denoter-in = each_name-leaves (define_name region NameKind.Constant) tt e.names (λ a x h.
      define_name-leaves region NameKind.Constant a x h) denoter-in.1.0
  define_denoter-leaves region (tree.a_subrange first dots last) denoter-in = give-leaves tt
  define_denoter-leaves region (tree.a_pointer caret name) denoter-in = give-leaves tt
  define_denoter-leaves region (tree.a_structure packed s) denoter-in = define_structure-leaves region s denoter-in.1

  pub define_structure-leaves : {Q : ℕ → Type 0} (region : ℕ) (structure : StructureTree) → Every Q (structure_node structure)
      → Leaves Q (define_structure region structure)
  define_structure-leaves region (tree.an_array a) structure-in = define_array-leaves region a structure-in
  define_structure-leaves region (tree.a_record word fields end) structure-in = define_in_fields-leaves Wanted.Constants region fields structure-in.1.0
  define_structure-leaves region (tree.a_set_type word of base) structure-in = define_denoter-leaves region base structure-in.1.1

  pub define_array-leaves : {Q : ℕ → Type 0} (region : ℕ) (array_denoter : ArrayTree) → Every Q (array_node array_denoter)
      → Leaves Q (define_array region array_denoter)
  define_array-leaves region (tree.index_types word open' first others close of component) array_denoter-in =
      bind-leaves (define_denoter-leaves region first array_denoter-in.1.1.0) (λ _. bind-leaves (define_others-leaves region others array_denoter-in.1.1.1.0)
      (λ _. define_denoter-leaves region component array_denoter-in.1.1.1.1.1.1))

  pub define_others-leaves : {Q : ℕ → Type 0} (region : ℕ) (next_denoter : DenoterTrees) → Every Q (denoters_node next_denoter)
      → Leaves Q (define_others region next_denoter)
  define_others-leaves region tree.end_of_denoters next_denoter-in = give-leaves tt
  define_others-leaves region (tree.more_denoters comma d rest) next_denoter-in = bind-leaves (define_denoter-leaves region d next_denoter-in.0.1) (λ _.
      define_others-leaves region rest next_denoter-in.1)

  pub define_in_fields-leaves : {Q : ℕ → Type 0} (w : Wanted) (region : ℕ) (fields : FieldsTree) → Every Q (fields_node fields)
      → Leaves Q (define_in_fields w region fields)
  define_in_fields-leaves w region tree.without_fields fields-in = give-leaves tt
  define_in_fields-leaves {Q = Q} w region (tree.fixed_fields fixed part last) fields-in =
      bind-leaves (define_fixed-leaves w region fixed (next_variants_node part last) fields-in) (λ _.
      define_part-leaves w region part last (fixed_end Q fixed (next_variants_node part last) fields-in))
  define_in_fields-leaves w region (tree.variant_fields variants last) fields-in = define_variants-leaves w region variants last fields-in

  pub define_fixed-leaves : {Q : ℕ → Type 0} (w : Wanted) (region : ℕ) (fixed : FixedTree) (end : Node) → Every Q (fixed_node fixed end)
      → Leaves Q (define_fixed w region fixed)
  define_fixed-leaves w region (tree.fixed_part first others) end fixed-in =
      bind-leaves (define_section-leaves w region first fixed-in.0) (λ _. define_sections-leaves w region others end fixed-in.1)

  pub define_section-leaves : {Q : ℕ → Type 0} (w : Wanted) (region : ℕ) (section : SectionTree) → Every Q (section_node section)
      → Leaves Q (define_section w region section)
  define_section-leaves w region (tree.a_section names colon d) section-in =
      by-leaves w (each_name (define_name region NameKind.Field) tt names) (define_denoter region d)
      (each_name-leaves (define_name region NameKind.Field) tt names (λ a x h. define_name-leaves region NameKind.Field a x h) section-in.0)
      (define_denoter-leaves region d section-in.1.1)

  pub define_sections-leaves : {Q : ℕ → Type 0} (w : Wanted) (region : ℕ) (rest : SectionTrees) (end : Node) → Every Q (sections_node rest end)
      → Leaves Q (define_sections w region rest)
  define_sections-leaves w region tree.end_of_sections end rest-in = give-leaves tt
  define_sections-leaves w region (tree.more_sections semicolon section rest) end rest-in =
      bind-leaves (define_section-leaves w region section rest-in.1.0) (λ _. define_sections-leaves w region rest end rest-in.1.1)

  pub define_part-leaves : {Q : ℕ → Type 0} (w : Wanted) (region : ℕ) (x : PartTree) (last : Option ℕ) → Every Q (next_variants_node x last)
      → Leaves Q (define_part w region x)
  define_part-leaves w region tree.without_part last x-in = give-leaves tt
  define_part-leaves w region (tree.a_part semicolon variants) last x-in = define_variants-leaves w region variants last x-in.1

  pub define_variants-leaves : {Q : ℕ → Type 0} (w : Wanted) (region : ℕ) (variants : VariantsTree) (last : Option ℕ) → Every Q (variants_node variants last)
      → Leaves Q (define_variants w region variants)
  define_variants-leaves w region (tree.arms word tag of_word first others) last variants-in =
      bind-leaves (define_tag-leaves w region tag.field tag.name variants-in.1.0) (λ _.
      bind-leaves (define_arm-leaves w region first variants-in.1.1.1.0) (λ _.
      define_arms-leaves w region others (last_semicolon_node last) variants-in.1.1.1.1))

  pub define_arm-leaves : {Q : ℕ → Type 0} (w : Wanted) (region : ℕ) (arm : ArmTree) → Every Q (arm_node arm) → Leaves Q (define_arm w region arm)
  define_arm-leaves w region (tree.an_arm constants colon open' fields close) arm-in = define_in_fields-leaves w region fields arm-in.1.1.1.0

  pub define_arms-leaves : {Q : ℕ → Type 0} (w : Wanted) (region : ℕ) (rest : ArmTrees) (end : Node) → Every Q (arms_node rest end)
      → Leaves Q (define_arms w region rest)
  define_arms-leaves w region tree.end_of_arms end rest-in = give-leaves tt
  define_arms-leaves w region (tree.more_arms semicolon arm rest) end rest-in =
      bind-leaves (define_arm-leaves w region arm rest-in.1.0) (λ _. define_arms-leaves w region rest end rest-in.1.1)

pub define_record-leaves : {Q : ℕ → Type 0} (frame : ℕ) (fields : FieldsTree) → Every Q (fields_node fields) → Leaves Q (define_record frame fields)
unfolding define_record
define_record-leaves frame fields fields-in = bind-leaves (look-leaves (λ k. (frame_at k frame).region)) (λ region.
    define_in_fields-leaves Wanted.Fields region fields fields-in)
