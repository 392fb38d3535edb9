-- The names of a region are tokens of the parts that define them.
use Rattle.std.proofs.Common.{if◌then◌else◌, ◌++◌, ◌∷◌, [], ℕ, Bool, List, None, Option, Some, false, is_some, map, true}
use Rattle.grammar.specs.Nodes.{Node, row}
use Rattle.pas_tree.specs.{Blocks.constant_definition_node, ConstantTrees.NamesTree, Constants.next_name_node, DenoterTrees.StructureTree}
use Rattle.pas_tree.specs.{DenoterTrees.VariantsTree, Denoters.tag_rest_node, SchemaTrees.FormalTypeTree, SchemaTrees.SchemaTree, Schemas.next_spec_node}
use Rattle.pas_tree.specs.{Schemas.spec_node, declared.schemas.NextSpec.NextSpec, declared.schemas.Spec.Spec}
use Rattle.pas_tree.specs.BlockTrees.{ConstantPartTree, ParametersTree, TypeDefinitionTree, TypePartTree, VariableDeclarationTree, VariablePartTree}
use Rattle.pas_tree.specs.DenoterTrees.{ArmTree, ArmTrees, ArrayTree, DenoterTree, DenoterTrees, FieldsTree, FixedTree, PartTree, SectionTree, SectionTrees}
use Rattle.pas_tree.specs.DenoterTrees as denoters
use Rattle.pas_tree.specs.HeadingTrees.{FormalNamesTree, FormalTree, FormalTrees, FormalsTree, HeldFormals}
use Rattle.pas_tree.specs.HeadingTrees as headings
use Rattle.pas_tree.specs.SchemaTrees as schemas
use Rattle.pas_tree.specs.TreeNodes.{arm_node, arms_node, array_node, constant_part_node, denoter_node, denoters_node, fields_node, fixed_node}
use Rattle.pas_tree.specs.TreeNodes.{formal_names_node, formal_node, formal_type_node, formals_node, held_formals_node, more_formals_node, names_node}
use Rattle.pas_tree.specs.TreeNodes.{next_variants_node, parameters_node, schema_node, section_node, sections_node, structure_node, type_definition_node}
use Rattle.pas_tree.specs.TreeNodes.{type_part_node, variable_declaration_node, variable_part_node, variants_node}
use Rattle.pas_tree.specs.declared.{blocks.ConstantDefinition.ConstantDefinition, constants.NextName.NextName, denoters.TagField.TagField}
use Rattle.check_steps.specs.Known.{Known}
use Rattle.denoter_checker.specs.declared.defines.Wanted.{Wanted}
use Rattle.decl_checker.specs.Parameters.{text_file_named}
use Rattle.rule_laws.proofs.{Breaks.Each, Breaks.both, Every.Every, TokenPlaces.heading_name-in, TokenPlaces.sections_end}
use Rattle.rule_laws.specs.RegionNames.{arm_names, arms_names, array_names, bound_names, constant_names, constants_of, denoter_names, field_names, file_name}
use Rattle.rule_laws.specs.RegionNames.{file_names, fixed_names, formal_names, formals_names, held_names, index_names, list_names, listed_names}
use Rattle.rule_laws.specs.RegionNames.{more_spec_names, names_and_bounds, next_token, other_formal_names, parameter_names, schema_names, section_names}
use Rattle.rule_laws.specs.RegionNames.{sections_names, spec_names, structure_names, tag_names, type_names, types_of, variable_names, variables_of}
use Rattle.rule_laws.specs.RegionNames.{variant_names, wanted}

next-in : (Q : ℕ → Type 0) (ns : List NextName) → Every Q (row (map next_name_node ns)) → Each Q (map next_token ns)
next-in Q [] h = tt
next-in Q (n ∷ ns) h = (h.0.1.is, next-in Q ns h.1)

pub names-in : (Q : ℕ → Type 0) (n : NamesTree) → Every Q (names_node n) → Each Q (listed_names n)
names-in Q n h = (h.0.is, next-in Q n.others h.1)

wanted-in : (Q : ℕ → Type 0) (w : Wanted) (xs ys : List ℕ) → Each Q xs → Each Q ys → Each Q (wanted w xs ys)
wanted-in Q Wanted.Fields xs ys x y = x
wanted-in Q Wanted.Constants xs ys x y = y

tag-in : (Q : ℕ → Type 0) (f : Option TagField) (name : ℕ) → Every Q (tag_rest_node f name) → Each Q (tag_names f)
tag-in Q None name h = tt
tag-in Q (Some f) name h = (h.0.is, tt)

fixed-end : (Q : ℕ → Type 0) (f : FixedTree) (end : Node) → Every Q (fixed_node f end) → Every Q end
fixed-end Q (denoters.fixed_part first others) end h = sections_end Q others end h.1

-- ---- types

mutual
  denoter-in : (Q : ℕ → Type 0) (d : DenoterTree) → Every Q (denoter_node d) → Each Q (denoter_names d)
  denoter-in Q (denoters.a_type_name token) h = tt
  denoter-in Q (denoters.an_enumeration e) h = names-in Q e.names h.1.0
  denoter-in Q (denoters.a_subrange first dots last) h = tt
  denoter-in Q (denoters.a_pointer caret name) h = tt
  denoter-in Q (denoters.a_structure packed s) h = structure-in Q s h.1

  structure-in : (Q : ℕ → Type 0) (s : StructureTree) → Every Q (structure_node s) → Each Q (structure_names s)
  structure-in Q (denoters.an_array a) h = array-in Q a h
  structure-in Q (denoters.a_record word fields end) h = fields-in Q Wanted.Constants fields h.1.0
  structure-in Q (denoters.a_set_type word of base) h = denoter-in Q base h.1.1

  array-in : (Q : ℕ → Type 0) (a : ArrayTree) → Every Q (array_node a) → Each Q (array_names a)
  array-in Q (denoters.index_types word open' first others close of component) h =
      both Q (denoter_names first) (index_names others ++ denoter_names component) (denoter-in Q first h.1.1.0)
      (both Q (index_names others) (denoter_names component) (indexes-in Q others h.1.1.1.0) (denoter-in Q component h.1.1.1.1.1.1))

  indexes-in : (Q : ℕ → Type 0) (r : DenoterTrees) → Every Q (denoters_node r) → Each Q (index_names r)
  indexes-in Q denoters.end_of_denoters h = tt
  indexes-in Q (denoters.more_denoters comma d rest) h =
      both Q (denoter_names d) (index_names rest) (denoter-in Q d h.0.1) (indexes-in Q rest h.1)

  fields-in : (Q : ℕ → Type 0) (w : Wanted) (f : FieldsTree) → Every Q (fields_node f) → Each Q (field_names w f)
  fields-in Q w denoters.without_fields h = tt
  fields-in Q w (denoters.fixed_fields fixed variants last) h =
      let end = next_variants_node variants last in
      both Q (fixed_names w fixed) (held_names w variants) (fixed-in Q w fixed end h) (held-in Q w variants last (fixed-end Q fixed end h))
  fields-in Q w (denoters.variant_fields variants last) h = variants-in Q w variants last h

  fixed-in : (Q : ℕ → Type 0) (w : Wanted) (f : FixedTree) (end : Node) → Every Q (fixed_node f end) → Each Q (fixed_names w f)
  fixed-in Q w (denoters.fixed_part first others) end h =
      both Q (section_names w first) (sections_names w others) (section-in Q w first h.0) (sections-in Q w others end h.1)

  section-in : (Q : ℕ → Type 0) (w : Wanted) (s : SectionTree) → Every Q (section_node s) → Each Q (section_names w s)
  section-in Q w (denoters.a_section names colon d) h =
      wanted-in Q w (listed_names names) (denoter_names d) (names-in Q names h.0) (denoter-in Q d h.1.1)

  sections-in : (Q : ℕ → Type 0) (w : Wanted) (r : SectionTrees) (end : Node) → Every Q (sections_node r end) → Each Q (sections_names w r)
  sections-in Q w denoters.end_of_sections end h = tt
  sections-in Q w (denoters.more_sections semicolon s rest) end h =
      both Q (section_names w s) (sections_names w rest) (section-in Q w s h.1.0) (sections-in Q w rest end h.1.1)

  held-in : (Q : ℕ → Type 0) (w : Wanted) (p : PartTree) (last : Option ℕ) → Every Q (next_variants_node p last) → Each Q (held_names w p)
  held-in Q w denoters.without_part last h = tt
  held-in Q w (denoters.a_part semicolon variants) last h = variants-in Q w variants last h.1

  variants-in : (Q : ℕ → Type 0) (w : Wanted) (v : VariantsTree) (last : Option ℕ) → Every Q (variants_node v last) → Each Q (variant_names w v)
  variants-in Q w (denoters.arms word tag of_word first others) last h =
      both Q (wanted w (tag_names tag.field) []) (arm_names w first ++ arms_names w others)
      (wanted-in Q w (tag_names tag.field) [] (tag-in Q tag.field tag.name h.1.0) tt)
      (both Q (arm_names w first) (arms_names w others) (arm-in Q w first h.1.1.1.0) (arms-in Q w others _ h.1.1.1.1))

  arm-in : (Q : ℕ → Type 0) (w : Wanted) (a : ArmTree) → Every Q (arm_node a) → Each Q (arm_names w a)
  arm-in Q w (denoters.an_arm constants colon left fields right) h = fields-in Q w fields h.1.1.1.0

  arms-in : (Q : ℕ → Type 0) (w : Wanted) (r : ArmTrees) (end : Node) → Every Q (arms_node r end) → Each Q (arms_names w r)
  arms-in Q w denoters.end_of_arms end h = tt
  arms-in Q w (denoters.more_arms semicolon a rest) end h =
      both Q (arm_names w a) (arms_names w rest) (arm-in Q w a h.1.0) (arms-in Q w rest end h.1.1)

-- ---- blocks

constants-in : (Q : ℕ → Type 0) (ds : List ConstantDefinition) → Every Q (row (map constant_definition_node ds)) → Each Q (constant_names ds)
constants-in Q [] h = tt
constants-in Q (d ∷ ds) h = (h.0.0.is, constants-in Q ds h.1)

constant_part-in : (Q : ℕ → Type 0) (p : Option ConstantPartTree) → Every Q (constant_part_node p) → Each Q (constants_of p)
constant_part-in Q None h = tt
constant_part-in Q (Some p) h = (h.1.0.0.is, constants-in Q p.others h.1.1)

one_type-in : (Q : ℕ → Type 0) (d : TypeDefinitionTree) → Every Q (type_definition_node d) → Each Q (d.name ∷ denoter_names d.denoter)
one_type-in Q d h = (h.0.is, denoter-in Q d.denoter h.1.1.0)

types-in : (Q : ℕ → Type 0) (ds : List TypeDefinitionTree) → Every Q (row (map type_definition_node ds)) → Each Q (type_names ds)
types-in Q [] h = tt
types-in Q (d ∷ ds) h = both Q (d.name ∷ denoter_names d.denoter) (type_names ds) (one_type-in Q d h.0) (types-in Q ds h.1)

type_part-in : (Q : ℕ → Type 0) (p : Option TypePartTree) → Every Q (type_part_node p) → Each Q (types_of p)
type_part-in Q None h = tt
type_part-in Q (Some p) h =
    both Q (p.first.name ∷ denoter_names p.first.denoter) (type_names p.others) (one_type-in Q p.first h.1.0) (types-in Q p.others h.1.1)

one_variable-in : (Q : ℕ → Type 0) (d : VariableDeclarationTree) → Every Q (variable_declaration_node d)
    → Each Q (listed_names d.names ++ denoter_names d.denoter)
one_variable-in Q d h = both Q (listed_names d.names) (denoter_names d.denoter) (names-in Q d.names h.0) (denoter-in Q d.denoter h.1.1.0)

variables-in : (Q : ℕ → Type 0) (ds : List VariableDeclarationTree) → Every Q (row (map variable_declaration_node ds)) → Each Q (variable_names ds)
variables-in Q [] h = tt
variables-in Q (d ∷ ds) h =
    both Q (listed_names d.names ++ denoter_names d.denoter) (variable_names ds) (one_variable-in Q d h.0) (variables-in Q ds h.1)

variable_part-in : (Q : ℕ → Type 0) (p : Option VariablePartTree) → Every Q (variable_part_node p) → Each Q (variables_of p)
variable_part-in Q None h = tt
variable_part-in Q (Some p) h = both Q (listed_names p.first.names ++ denoter_names p.first.denoter) (variable_names p.others)
    (one_variable-in Q p.first h.1.0) (variables-in Q p.others h.1.1)

-- the parts of a block before its procedures and functions
pub block_names-in : (Q : ℕ → Type 0) (consts : Option ConstantPartTree) (kinds : Option TypePartTree) (vars : Option VariablePartTree)
    → Every Q (constant_part_node consts) → Every Q (type_part_node kinds) → Every Q (variable_part_node vars)
    → Each Q (constants_of consts ++ (types_of kinds ++ variables_of vars))
block_names-in Q consts kinds vars c k v = both Q (constants_of consts) (types_of kinds ++ variables_of vars) (constant_part-in Q consts c)
    (both Q (types_of kinds) (variables_of vars) (type_part-in Q kinds k) (variable_part-in Q vars v))

-- ---- formal parameters

spec-in : (Q : ℕ → Type 0) (s : Spec) → Every Q (spec_node s) → Each Q (spec_names s)
spec-in Q s h = (h.0.is, (h.1.1.0.is, tt))

specs-in : (Q : ℕ → Type 0) (ns : List NextSpec) → Every Q (row (map next_spec_node ns)) → Each Q (more_spec_names ns)
specs-in Q [] h = tt
specs-in Q (n ∷ ns) h = both Q (spec_names n.spec) (more_spec_names ns) (spec-in Q n.spec h.0.1) (specs-in Q ns h.1)

mutual
  bounds-in : (Q : ℕ → Type 0) (f : FormalTypeTree) → Every Q (formal_type_node f) → Each Q (bound_names f)
  bounds-in Q (schemas.a_formal_name n) h = tt
  bounds-in Q (schemas.a_schema s) h = schema-in Q s h

  schema-in : (Q : ℕ → Type 0) (s : SchemaTree) → Every Q (schema_node s) → Each Q (schema_names s)
  schema-in Q (schemas.a_packed_schema p) h = spec-in Q p.spec h.1.1.1.0
  schema-in Q (schemas.an_unpacked_schema word left specs right of_word component) h =
      both Q (spec_names specs.first) (more_spec_names specs.others ++ bound_names component) (spec-in Q specs.first h.1.1.0.0)
      (both Q (more_spec_names specs.others) (bound_names component) (specs-in Q specs.others h.1.1.0.1) (bounds-in Q component h.1.1.1.1.1))

group-in : (Q : ℕ → Type 0) (f : FormalNamesTree) → Every Q (formal_names_node f) → Each Q (names_and_bounds f)
group-in Q f h = both Q (listed_names f.names) (bound_names f.of_type) (names-in Q f.names h.0) (bounds-in Q f.of_type h.1.1)

formal-in : (Q : ℕ → Type 0) (f : FormalTree) → Every Q (formal_node f) → Each Q (formal_names f)
formal-in Q (headings.value_formals f) h = group-in Q f h
formal-in Q (headings.variable_formals word f) h = group-in Q f h.1
formal-in Q (headings.a_routine_formal g) h = ((heading_name-in g h).is, tt)

formals-in : (Q : ℕ → Type 0) (r : FormalTrees) → Every Q (more_formals_node r) → Each Q (other_formal_names r)
formals-in Q headings.end_of_formals h = tt
formals-in Q (headings.more_formals semicolon f rest) h =
    both Q (formal_names f) (other_formal_names rest) (formal-in Q f h.0.1) (formals-in Q rest h.1)

list-in : (Q : ℕ → Type 0) (f : FormalsTree) → Every Q (formals_node f) → Each Q (list_names f)
list-in Q (headings.formal_list left first others right) h =
    both Q (formal_names first) (other_formal_names others) (formal-in Q first h.1.0) (formals-in Q others h.1.1.0)

pub held-formals-in : (Q : ℕ → Type 0) (f : HeldFormals) → Every Q (held_formals_node f) → Each Q (formals_names f)
held-formals-in Q headings.without_formals h = tt
held-formals-in Q (headings.some_formals f) h = list-in Q f h

-- ---- program parameters

files-in : (Q : ℕ → Type 0) (k : Known) (xs : List ℕ) → Each Q xs → Each Q (file_names k xs)
files-in Q k [] h = tt
files-in Q k (x ∷ xs) h = both Q (file_name k x) (file_names k xs) (by (is_some (text_file_named k x))) (files-in Q k xs h.1)
  where
    by : (b : Bool) → Each Q (if b then x ∷ [] else [])
    by true = (h.0, tt)
    by false = tt

pub parameters-in : (Q : ℕ → Type 0) (k : Known) (p : Option ParametersTree) → Every Q (parameters_node p) → Each Q (parameter_names k p)
parameters-in Q k None h = tt
parameters-in Q k (Some p) h = files-in Q k (listed_names p.names) (names-in Q p.names h.1.0)
