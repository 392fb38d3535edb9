-- The names that a region defines, by their tokens, in the order in which they are defined (6.2.2.7).
use Rattle.std.specs.Prelude.{if◌then◌else◌, ◌++◌, ◌||◌, ◌∷◌, [], ℕ, Bool, List, None, Option, Some, is_some, map}
use Rattle.std.specs.{Prelude.nat_eq, List.list_any}
use Rattle.pas_tree.specs.{ConstantTrees.NamesTree, HeadingPlaces.heading_name, SchemaTrees.FormalTypeTree}
use Rattle.pas_tree.specs.{SchemaTrees.SchemaTree, declared.schemas.NextSpec.NextSpec, declared.schemas.Spec.Spec}
use Rattle.pas_tree.specs.BlockTrees.{BlockTree, ConstantPartTree, LabelPartTree, ParametersTree, TypeDefinitionTree}
use Rattle.pas_tree.specs.BlockTrees.{TypePartTree, VariableDeclarationTree, VariablePartTree}
use Rattle.pas_tree.specs.BlockTrees as blocks
use Rattle.pas_tree.specs.DenoterTrees.{ArmTree, ArmTrees, ArrayTree, DenoterTree, DenoterTrees, FieldsTree, FixedTree}
use Rattle.pas_tree.specs.DenoterTrees.{PartTree, SectionTree, SectionTrees, StructureTree, VariantsTree}
use Rattle.pas_tree.specs.DenoterTrees as denoters
use Rattle.pas_tree.specs.HeadingTrees.{FormalNamesTree, FormalTree, FormalTrees, FormalsTree, HeadingTree, HeldFormals}
use Rattle.pas_tree.specs.HeadingTrees as headings
use Rattle.pas_tree.specs.SchemaTrees as schemas
use Rattle.pas_tree.specs.declared.{constants.NextName.NextName, denoters.TagField.TagField}
use Rattle.pas_tree.specs.declared.blocks.{ConstantDefinition.ConstantDefinition, NextLabel.NextLabel}
use Rattle.check_steps.specs.{Known.Known, Known.name_at, Regions.defined_in}
use Rattle.kind_checker.specs.Constants.{constants_in}
use Rattle.denoter_checker.specs.{Formals.formals_of, declared.defines.Wanted.Wanted}
use Rattle.denoter_checker.specs.Parts.{types_in, variables_in}
use Rattle.decl_checker.specs.Parameters.{text_file_named}

abbrev pub next_token : NextName → ℕ
next_token n = n.name

abbrev pub listed_names : NamesTree → List ℕ
listed_names n = n.first ∷ map next_token n.others

abbrev pub wanted : Wanted → List ℕ → List ℕ → List ℕ
wanted Wanted.Fields fields constants = fields
wanted Wanted.Constants fields constants = constants

abbrev pub tag_names : Option TagField → List ℕ
tag_names None = []
tag_names (Some f) = f.name ∷ []

abbrev mutual
  -- the constants of the enumerations in a denoter
  pub denoter_names : DenoterTree → List ℕ
  denoter_names (denoters.a_type_name token) = []
  denoter_names (denoters.an_enumeration e) = listed_names e.names
  denoter_names (denoters.a_subrange first dots last) = []
  denoter_names (denoters.a_pointer caret name) = []
  denoter_names (denoters.a_structure packed s) = structure_names s

  pub structure_names : StructureTree → List ℕ
  structure_names (denoters.an_array a) = array_names a
  structure_names (denoters.a_record word fields end) = field_names Wanted.Constants fields
  structure_names (denoters.a_set_type word of base) = denoter_names base

  pub array_names : ArrayTree → List ℕ
  array_names (denoters.index_types word left first others right of component) =
      denoter_names first ++ (index_names others ++ denoter_names component)

  pub index_names : DenoterTrees → List ℕ
  index_names denoters.end_of_denoters = []
  index_names (denoters.more_denoters comma d rest) = denoter_names d ++ index_names rest

  -- the fields of a record, those of all its variants too; or the constants of the enumerations in their types
  pub field_names : Wanted → FieldsTree → List ℕ
  field_names w denoters.without_fields = []
  field_names w (denoters.fixed_fields fixed variants last) = fixed_names w fixed ++ held_names w variants
  field_names w (denoters.variant_fields variants last) = variant_names w variants

  pub fixed_names : Wanted → FixedTree → List ℕ
  fixed_names w (denoters.fixed_part first others) = section_names w first ++ sections_names w others

  pub section_names : Wanted → SectionTree → List ℕ
  section_names w (denoters.a_section names colon d) = wanted w (listed_names names) (denoter_names d)

  pub sections_names : Wanted → SectionTrees → List ℕ
  sections_names w denoters.end_of_sections = []
  sections_names w (denoters.more_sections semicolon s rest) = section_names w s ++ sections_names w rest

  pub held_names : Wanted → PartTree → List ℕ
  held_names w denoters.without_part = []
  held_names w (denoters.a_part semicolon variants) = variant_names w variants

  pub variant_names : Wanted → VariantsTree → List ℕ
  variant_names w (denoters.arms word tag of_word first others) =
      wanted w (tag_names tag.field) [] ++ (arm_names w first ++ arms_names w others)

  pub arm_names : Wanted → ArmTree → List ℕ
  arm_names w (denoters.an_arm constants colon left fields right) = field_names w fields

  pub arms_names : Wanted → ArmTrees → List ℕ
  arms_names w denoters.end_of_arms = []
  arms_names w (denoters.more_arms semicolon a rest) = arm_names w a ++ arms_names w rest

-- ---- blocks

abbrev pub constant_names : List ConstantDefinition → List ℕ
constant_names [] = []
constant_names (d ∷ ds) = d.name ∷ constant_names ds

abbrev pub constants_of : Option ConstantPartTree → List ℕ
constants_of None = []
constants_of (Some p) = constant_names (constants_in p)

abbrev pub type_names : List TypeDefinitionTree → List ℕ
type_names [] = []
type_names (d ∷ ds) = (d.name ∷ denoter_names d.denoter) ++ type_names ds

abbrev pub types_of : Option TypePartTree → List ℕ
types_of None = []
types_of (Some p) = type_names (types_in p)

abbrev pub variable_names : List VariableDeclarationTree → List ℕ
variable_names [] = []
variable_names (d ∷ ds) = (listed_names d.names ++ denoter_names d.denoter) ++ variable_names ds

abbrev pub variables_of : Option VariablePartTree → List ℕ
variables_of None = []
variables_of (Some p) = variable_names (variables_in p)

-- the names of a block's constants, types and variables, and of the enumerations in their types
abbrev pub block_names : BlockTree → List ℕ
block_names (blocks.a_block labels constants types variables routines body) =
    constants_of constants ++ (types_of types ++ variables_of variables)

-- ---- formal parameters, which are names of the block's region

abbrev pub spec_names : Spec → List ℕ
spec_names s = s.least ∷ s.greatest ∷ []

abbrev pub more_spec_names : List NextSpec → List ℕ
more_spec_names [] = []
more_spec_names (n ∷ ns) = spec_names n.spec ++ more_spec_names ns

abbrev mutual
  -- the bounds of the schema of a section, if it has one
  pub bound_names : FormalTypeTree → List ℕ
  bound_names (schemas.a_formal_name n) = []
  bound_names (schemas.a_schema s) = schema_names s

  pub schema_names : SchemaTree → List ℕ
  schema_names (schemas.a_packed_schema p) = spec_names p.spec
  schema_names (schemas.an_unpacked_schema word left specs right of_word component) =
      spec_names specs.first ++ (more_spec_names specs.others ++ bound_names component)

abbrev pub names_and_bounds : FormalNamesTree → List ℕ
names_and_bounds f = listed_names f.names ++ bound_names f.of_type

abbrev pub formal_names : FormalTree → List ℕ
formal_names (headings.value_formals f) = names_and_bounds f
formal_names (headings.variable_formals word f) = names_and_bounds f
formal_names (headings.a_routine_formal h) = heading_name h ∷ []

abbrev pub other_formal_names : FormalTrees → List ℕ
other_formal_names headings.end_of_formals = []
other_formal_names (headings.more_formals semicolon f rest) = formal_names f ++ other_formal_names rest

abbrev pub list_names : FormalsTree → List ℕ
list_names (headings.formal_list left first others right) = formal_names first ++ other_formal_names others

abbrev pub formals_names : HeldFormals → List ℕ
formals_names headings.without_formals = []
formals_names (headings.some_formals f) = list_names f

-- the formal parameters of a heading, whatever their modes
abbrev pub heading_names : HeadingTree → List ℕ
heading_names h = formals_names (formals_of h)

-- ---- program parameters, which are names of the program block's region if they are text files

abbrev pub file_name : Known → ℕ → List ℕ
file_name k token = if is_some (text_file_named k token) then token ∷ [] else []

abbrev pub file_names : Known → List ℕ → List ℕ
file_names k [] = []
file_names k (x ∷ xs) = file_name k x ++ file_names k xs

abbrev pub parameter_names : Known → Option ParametersTree → List ℕ
parameter_names k None = []
parameter_names k (Some p) = file_names k (listed_names p.names)

-- ---- labels

abbrev pub label_token : NextLabel → ℕ
label_token n = n.number

abbrev pub labels_of : Option LabelPartTree → List ℕ
labels_of None = []
labels_of (Some p) = p.first ∷ map label_token p.others

-- whether a region defines a token's name, or one of these tokens has it
abbrev pub is_defined : Known → ℕ → List ℕ → ℕ → Bool
is_defined k region before x = is_some (defined_in k.regions region (name_at k x))
    || list_any (λ y. nat_eq (name_at k x) (name_at k y)) before
