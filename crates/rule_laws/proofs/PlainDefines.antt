-- Where definitions break rule 2, and that they break plain rules else.
use Rattle.std.proofs.Common.{ℕ, None, Option, Some, is_none, is_some, nat_le, refl}
use Rattle.pas_tree.specs.{BlockTrees.VariablePartTree, HeadingPlaces.heading_name, SchemaTrees.FormalTypeTree, SchemaTrees.SchemaTree}
use Rattle.pas_tree.specs.BlockTrees.{ConstantPartTree, LabelPartTree, ParametersTree, TypeDefinitionTree, TypePartTree, VariableDeclarationTree}
use Rattle.pas_tree.specs.DenoterTrees.{ArmTree, ArmTrees, ArrayTree, DenoterTree, DenoterTrees, FieldsTree, FixedTree, PartTree, SectionTree, SectionTrees}
use Rattle.pas_tree.specs.DenoterTrees.{StructureTree, VariantsTree}
use Rattle.pas_tree.specs.DenoterTrees as denoters
use Rattle.pas_tree.specs.HeadingTrees.{FormalNamesTree, FormalTree, FormalTrees, FormalsTree, HeadingTree, HeldFormals}
use Rattle.pas_tree.specs.HeadingTrees as headings
use Rattle.pas_tree.specs.SchemaTrees as schemas
use Rattle.pas_tree.specs.declared.{denoters.TagField.TagField, schemas.NextSpec.NextSpec, schemas.Spec.Spec}
use Rattle.pas_tree.specs.declared.blocks.{ConstantDefinition.ConstantDefinition, NextLabel.NextLabel}
use Rattle.core_program.specs.declared.rows.{NameRow.NameRow, Row.Row, TextFile.TextFile}
use Rattle.check_steps.specs.{Names.declare_in, Names.define_in, Regions.declared_in, Regions.defined_in, Steps.Step, Steps.give}
use Rattle.check_steps.specs.Known.{frame_at, label_at, name_at}
use Rattle.check_steps.specs.declared.{breaks.Broken.TheVariants.Early, regions.Def.Def, regions.Definition.Definition, regions.Frame.Frame}
use Rattle.kind_checker.specs.{Constants.constants_in, Constants.define_constant, declared.names.NameKind.NameKind}
use Rattle.kind_checker.specs.Names.{define_name, defined_as, each_name}
use Rattle.denoter_checker.specs.{Defines.define_variants, Formals.define_more_formals, Formals.formals_of, declared.defines.Wanted.Wanted}
use Rattle.denoter_checker.specs.Defines.{by, define_arm, define_arms, define_array, define_denoter, define_field, define_fixed, define_in_fields}
use Rattle.denoter_checker.specs.Defines.{define_others, define_part, define_record, define_section, define_sections, define_structure, define_tag}
use Rattle.denoter_checker.specs.Formals.{define_each_formal, define_formal, define_formal_names, define_formals, define_formals_at, define_held}
use Rattle.denoter_checker.specs.Parts.{define_type, define_variable, types_in, variables_in}
use Rattle.denoter_checker.specs.Schemas.{define_bounds, define_next_spec, define_schema, define_spec}
use Rattle.decl_checker.specs.Blocks.{constants, define_constants, define_types, define_variables}
use Rattle.decl_checker.specs.Labels.{define_label, define_labels, define_next_label}
use Rattle.decl_checker.specs.Parameters.{define_file, program_parameter, program_parameters, text_file_named}
use Rattle.rule_laws.proofs.Plain.{Aim, Plain, Solely, ask-plain, ask-solely, bind-solely, change-solely, each-plain, each_name-plain, give-solely, look-solely}
use Rattle.rule_laws.proofs.Plain.{put-plain, when-solely}
use Rattle.rule_laws.specs.Laws.{broken_at}

-- This holds of plain rules, and of rule 2 anywhere.
pub record Twice (aim : Aim) : Type 0 where
  pub plain : Plain aim
  pub twice : (token : ℕ) → aim.P (broken_at 2 token)

pub define_in-twice : {aim : Aim} (kept : Twice aim) (region : ℕ) (d : Definition) → Solely aim (define_in region d)
unfolding define_in
define_in-twice kept region d = bind-solely (look-solely (λ k. name_at k d.token)) (λ name. bind-solely (look-solely (λ k. defined_in k.regions region name))
    (λ held. bind-solely (ask-solely (Early 2) d.token (is_none held) (kept.twice d.token)) (λ _. when-solely (is_none held) (change-solely _ (λ k. refl)))))

by-twice : {aim : Aim} (w : Wanted) (fields constants : Step (Unit {0})) → Solely aim fields → Solely aim constants → Solely aim (by w fields constants)
by-twice Wanted.Fields fields constants h g = h
by-twice Wanted.Constants fields constants h g = g

-- ---- names

pub define_name-twice : {aim : Aim} (kept : Twice aim) (region : ℕ) (k : NameKind) (u : Unit {0}) (token : ℕ)
    → Solely aim (define_name region k u token)
unfolding define_name
define_name-twice kept region k u token = define_in-twice kept region (record { def = defined_as k token; token = token; end = token })

-- ---- constants

pub define_constant-twice : {aim : Aim} (kept : Twice aim) (region : ℕ) (u : Unit {0}) (d : ConstantDefinition)
    → Solely aim (define_constant region u d)
unfolding define_constant
define_constant-twice kept region u d = define_in-twice kept region (record { def = Def.Constant d.name; token = d.name; end = d.semicolon })

-- ---- denoters and records

pub define_field-twice : {aim : Aim} (kept : Twice aim) (region : ℕ) (tag_field : Option TagField)
    → Solely aim (define_field region tag_field)
define_field-twice kept region None = give-solely tt
define_field-twice kept region (Some f) = define_name-twice kept region NameKind.Field tt f.name

pub define_tag-twice : {aim : Aim} (kept : Twice aim) (w : Wanted) (region : ℕ) (field : Option TagField)
    → Solely aim (define_tag w region field)
define_tag-twice kept w region field = by-twice w (define_field region field) (give tt) (define_field-twice kept region field) (give-solely tt)

mutual
  pub define_denoter-twice : {aim : Aim} (kept : Twice aim) (region : ℕ) (denoter : DenoterTree)
      → Solely aim (define_denoter region denoter)
  define_denoter-twice kept region (denoters.a_type_name token) = give-solely tt
  define_denoter-twice kept region (denoters.an_enumeration e) = each_name-plain (define_name region NameKind.Constant) tt e.names
      (λ a x. define_name-twice kept region NameKind.Constant a x)
  define_denoter-twice kept region (denoters.a_subrange first dots last) = give-solely tt
  define_denoter-twice kept region (denoters.a_pointer caret name) = give-solely tt
  define_denoter-twice kept region (denoters.a_structure packed s) = define_structure-twice kept region s

  pub define_structure-twice : {aim : Aim} (kept : Twice aim) (region : ℕ) (structure : StructureTree)
      → Solely aim (define_structure region structure)
  define_structure-twice kept region (denoters.an_array a) = define_array-twice kept region a
  define_structure-twice kept region (denoters.a_record word fields end) = define_in_fields-twice kept Wanted.Constants region fields
  define_structure-twice kept region (denoters.a_set_type word of base) = define_denoter-twice kept region base

  pub define_array-twice : {aim : Aim} (kept : Twice aim) (region : ℕ) (array_denoter : ArrayTree)
      → Solely aim (define_array region array_denoter)
  define_array-twice kept region (denoters.index_types word open' first others close of component) =
      bind-solely (define_denoter-twice kept region first) (λ _. bind-solely (define_others-twice kept region others)
      (λ _. define_denoter-twice kept region component))

  pub define_others-twice : {aim : Aim} (kept : Twice aim) (region : ℕ) (next_denoter : DenoterTrees)
      → Solely aim (define_others region next_denoter)
  define_others-twice kept region denoters.end_of_denoters = give-solely tt
  define_others-twice kept region (denoters.more_denoters comma d rest) =
      bind-solely (define_denoter-twice kept region d) (λ _. define_others-twice kept region rest)

  pub define_in_fields-twice : {aim : Aim} (kept : Twice aim) (w : Wanted) (region : ℕ) (fields : FieldsTree)
      → Solely aim (define_in_fields w region fields)
  define_in_fields-twice kept w region denoters.without_fields = give-solely tt
  define_in_fields-twice kept w region (denoters.fixed_fields fixed part last) =
      bind-solely (define_fixed-twice kept w region fixed) (λ _. define_part-twice kept w region part)
  define_in_fields-twice kept w region (denoters.variant_fields variants last) = define_variants-twice kept w region variants

  pub define_fixed-twice : {aim : Aim} (kept : Twice aim) (w : Wanted) (region : ℕ) (fixed : FixedTree)
      → Solely aim (define_fixed w region fixed)
  define_fixed-twice kept w region (denoters.fixed_part first others) =
      bind-solely (define_section-twice kept w region first) (λ _. define_sections-twice kept w region others)

  pub define_section-twice : {aim : Aim} (kept : Twice aim) (w : Wanted) (region : ℕ) (section : SectionTree)
      → Solely aim (define_section w region section)
  define_section-twice kept w region (denoters.a_section names colon d) =
      by-twice w (each_name (define_name region NameKind.Field) tt names) (define_denoter region d)
      (each_name-plain (define_name region NameKind.Field) tt names (λ a x. define_name-twice kept region NameKind.Field a x))
      (define_denoter-twice kept region d)

  pub define_sections-twice : {aim : Aim} (kept : Twice aim) (w : Wanted) (region : ℕ) (rest : SectionTrees)
      → Solely aim (define_sections w region rest)
  define_sections-twice kept w region denoters.end_of_sections = give-solely tt
  define_sections-twice kept w region (denoters.more_sections semicolon section rest) =
      bind-solely (define_section-twice kept w region section) (λ _. define_sections-twice kept w region rest)

  pub define_part-twice : {aim : Aim} (kept : Twice aim) (w : Wanted) (region : ℕ) (x : PartTree)
      → Solely aim (define_part w region x)
  define_part-twice kept w region denoters.without_part = give-solely tt
  define_part-twice kept w region (denoters.a_part semicolon variants) = define_variants-twice kept w region variants

  pub define_variants-twice : {aim : Aim} (kept : Twice aim) (w : Wanted) (region : ℕ) (variants : VariantsTree)
      → Solely aim (define_variants w region variants)
  define_variants-twice kept w region (denoters.arms word tag of_word first others) =
      bind-solely (define_tag-twice kept w region tag.field) (λ _. bind-solely (define_arm-twice kept w region first)
      (λ _. define_arms-twice kept w region others))

  pub define_arm-twice : {aim : Aim} (kept : Twice aim) (w : Wanted) (region : ℕ) (arm : ArmTree)
      → Solely aim (define_arm w region arm)
  define_arm-twice kept w region (denoters.an_arm constants colon open' fields close) = define_in_fields-twice kept w region fields

  pub define_arms-twice : {aim : Aim} (kept : Twice aim) (w : Wanted) (region : ℕ) (rest : ArmTrees)
      → Solely aim (define_arms w region rest)
  define_arms-twice kept w region denoters.end_of_arms = give-solely tt
  define_arms-twice kept w region (denoters.more_arms semicolon arm rest) =
      bind-solely (define_arm-twice kept w region arm) (λ _. define_arms-twice kept w region rest)

pub define_record-twice : {aim : Aim} (kept : Twice aim) (frame : ℕ) (fields : FieldsTree)
    → Solely aim (define_record frame fields)
unfolding define_record
define_record-twice kept frame fields = bind-solely (look-solely (λ k. (frame_at k frame).region))
    (λ region. define_in_fields-twice kept Wanted.Fields region fields)

-- ---- bounds

pub define_spec-twice : {aim : Aim} (kept : Twice aim) (region : ℕ) (s : Spec) → Solely aim (define_spec region s)
unfolding define_spec
define_spec-twice kept region s =
    bind-solely (define_name-twice kept region NameKind.Formal tt s.least) (λ _. define_name-twice kept region NameKind.Formal tt s.greatest)

pub define_next_spec-twice : {aim : Aim} (kept : Twice aim) (region : ℕ) (u : Unit {0}) (n : NextSpec)
    → Solely aim (define_next_spec region u n)
unfolding define_next_spec
define_next_spec-twice kept region u n = define_spec-twice kept region n.spec

mutual
  pub define_bounds-twice : {aim : Aim} (kept : Twice aim) (region : ℕ) (t : FormalTypeTree)
      → Solely aim (define_bounds region t)
  define_bounds-twice kept region (schemas.a_formal_name n) = give-solely tt
  define_bounds-twice kept region (schemas.a_schema s) = define_schema-twice kept region s

  pub define_schema-twice : {aim : Aim} (kept : Twice aim) (region : ℕ) (s : SchemaTree)
      → Solely aim (define_schema region s)
  define_schema-twice kept region (schemas.a_packed_schema p) = define_spec-twice kept region p.spec
  define_schema-twice kept region (schemas.an_unpacked_schema word left specs right of_word component) =
      bind-solely (define_spec-twice kept region specs.first) (λ _.
      bind-solely (each-plain (define_next_spec region) (λ u n. define_next_spec-twice kept region u n) tt specs.others)
      (λ _. define_bounds-twice kept region component))

-- ---- formal parameters

pub define_formal_names-twice : {aim : Aim} (kept : Twice aim) (region : ℕ) (f : FormalNamesTree)
    → Solely aim (define_formal_names region f)
unfolding define_formal_names
define_formal_names-twice kept region f = bind-solely
    (each_name-plain (define_name region NameKind.Formal) tt f.names (λ a x. define_name-twice kept region NameKind.Formal a x))
    (λ _. define_bounds-twice kept region f.of_type)

pub define_formal-twice : {aim : Aim} (kept : Twice aim) (region : ℕ) (formal : FormalTree)
    → Solely aim (define_formal region formal)
define_formal-twice kept region (headings.value_formals f) = define_formal_names-twice kept region f
define_formal-twice kept region (headings.variable_formals word f) = define_formal_names-twice kept region f
define_formal-twice kept region (headings.a_routine_formal h) = define_name-twice kept region NameKind.Formal tt (heading_name h)

pub define_more_formals-twice : {aim : Aim} (kept : Twice aim) (region : ℕ) (rest : FormalTrees)
    → Solely aim (define_more_formals region rest)
define_more_formals-twice kept region headings.end_of_formals = give-solely tt
define_more_formals-twice kept region (headings.more_formals semicolon f rest) =
    bind-solely (define_formal-twice kept region f) (λ _. define_more_formals-twice kept region rest)

pub define_each_formal-twice : {aim : Aim} (kept : Twice aim) (region : ℕ) (f : FormalsTree)
    → Solely aim (define_each_formal region f)
define_each_formal-twice kept region (headings.formal_list open' first others close) =
    bind-solely (define_formal-twice kept region first) (λ _. define_more_formals-twice kept region others)

pub define_held-twice : {aim : Aim} (kept : Twice aim) (region : ℕ) (formals : HeldFormals)
    → Solely aim (define_held region formals)
define_held-twice kept region headings.without_formals = give-solely tt
define_held-twice kept region (headings.some_formals f) = define_each_formal-twice kept region f

pub define_formals-twice : {aim : Aim} (kept : Twice aim) (region : ℕ) (h : HeadingTree)
    → Solely aim (define_formals region h)
define_formals-twice kept region h = define_held-twice kept region (formals_of h)

pub define_formals_at-twice : {aim : Aim} (kept : Twice aim) (frame : ℕ) (h : HeadingTree)
    → Solely aim (define_formals_at frame h)
unfolding define_formals_at
define_formals_at-twice kept frame h = bind-solely (look-solely (λ k. (frame_at k frame).region)) (λ region. define_formals-twice kept region h)

-- ---- types and variables

pub define_type-twice : {aim : Aim} (kept : Twice aim) (region : ℕ) (u : Unit {0}) (d : TypeDefinitionTree)
    → Solely aim (define_type region u d)
unfolding define_type
define_type-twice kept region u d = bind-solely (define_in-twice kept region (record { def = Def.TypeName d.name; token = d.name; end = d.semicolon }))
    (λ _. define_denoter-twice kept region d.denoter)

pub define_variable-twice : {aim : Aim} (kept : Twice aim) (region : ℕ) (u : Unit {0}) (d : VariableDeclarationTree)
    → Solely aim (define_variable region u d)
unfolding define_variable
define_variable-twice kept region u d = bind-solely (each_name-plain (define_name region NameKind.Variable) tt d.names
    (λ a x. define_name-twice kept region NameKind.Variable a x)) (λ _. define_denoter-twice kept region d.denoter)

-- ---- the names of blocks

pub define_constants-twice : {aim : Aim} (kept : Twice aim) (region : ℕ) (constant_part' : Option ConstantPartTree)
    → Solely aim (define_constants region constant_part')
define_constants-twice kept region None = give-solely tt
define_constants-twice kept region (Some p) = each-plain (define_constant region) (λ a x. define_constant-twice kept region a x) tt (constants_in p)

pub define_types-twice : {aim : Aim} (kept : Twice aim) (region : ℕ) (type_part' : Option TypePartTree)
    → Solely aim (define_types region type_part')
define_types-twice kept region None = give-solely tt
define_types-twice kept region (Some p) = each-plain (define_type region) (λ a x. define_type-twice kept region a x) tt (types_in p)

pub define_variables-twice : {aim : Aim} (kept : Twice aim) (region : ℕ) (variable_part : Option VariablePartTree)
    → Solely aim (define_variables region variable_part)
define_variables-twice kept region None = give-solely tt
define_variables-twice kept region (Some p) = each-plain (define_variable region) (λ a x. define_variable-twice kept region a x) tt (variables_in p)

-- ---- program parameters

pub define_file-twice : {aim : Aim} (kept : Twice aim) (region token : ℕ) (x_text_file : Option TextFile)
    → Solely aim (define_file region token x_text_file)
define_file-twice kept region token None = give-solely tt
define_file-twice kept region token (Some file) = bind-solely (define_in-twice kept region (record { def = Def.TextFile token; token = token; end = token }))
    (λ _. put-plain kept.plain token (Row.Name (NameRow.TextFile file)))

pub program_parameter-twice : {aim : Aim} (kept : Twice aim) (region : ℕ) (u : Unit {0}) (token : ℕ)
    → Solely aim (program_parameter region u token)
unfolding program_parameter
program_parameter-twice kept region u token = bind-solely (look-solely (λ k. text_file_named k token))
    (λ file. bind-solely (ask-plain kept.plain _ token (is_some file) refl) (λ _. define_file-twice kept region token file))

pub program_parameters-twice : {aim : Aim} (kept : Twice aim) (region : ℕ) (parameters : Option ParametersTree)
    → Solely aim (program_parameters region parameters)
program_parameters-twice kept region None = give-solely tt
program_parameters-twice kept region (Some p) = each_name-plain (program_parameter region) tt p.names (λ a x. program_parameter-twice kept region a x)

-- ---- labels

declare_in-twice : {aim : Aim} (kept : Twice aim) (region value token : ℕ) → Solely aim (declare_in region value token)
unfolding declare_in
declare_in-twice kept region value token = bind-solely (look-solely (λ k. declared_in k.regions region value)) (λ held.
    bind-solely (ask-solely _ token (is_none held) (kept.twice token)) (λ _. when-solely (is_none held) (change-solely _ (λ k. refl))))

define_label-twice : {aim : Aim} (kept : Twice aim) (here : Frame) (token : ℕ) → Solely aim (define_label here token)
unfolding define_label
define_label-twice kept here token = bind-solely (look-solely (λ k. label_at k token))
    (λ value. bind-solely (ask-plain kept.plain _ token (nat_le value 9999) refl) (λ _. bind-solely
    (declare_in-twice kept here.region value token) (λ _. change-solely _ (λ k. refl))))

define_next_label-twice : {aim : Aim} (kept : Twice aim) (here : Frame) (u : Unit {0}) (n : NextLabel) → Solely aim (define_next_label here u n)
unfolding define_next_label
define_next_label-twice kept here u n = define_label-twice kept here n.number

pub define_labels-twice : {aim : Aim} (kept : Twice aim) (here : Frame) (label_part : Option LabelPartTree) → Solely aim (define_labels here label_part)
define_labels-twice kept here None = give-solely tt
define_labels-twice kept here (Some p) =
    bind-solely (define_label-twice kept here p.first) (λ _. each-plain (define_next_label here) (λ a x. define_next_label-twice kept here a x) tt p.others)
