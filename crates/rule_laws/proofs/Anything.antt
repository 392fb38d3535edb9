-- What holds of all records, and of all headings, holds of those of a part of a text.
use Rattle.std.proofs.Common.{◌∷◌, [], List, None, Option, Some}
use Rattle.pas_tree.specs.BlockTrees.{BlockTree, BodyTree, TypeDefinitionTree, TypePartTree, VariableDeclarationTree, VariablePartTree}
use Rattle.pas_tree.specs.BlockTrees as blocks
use Rattle.pas_tree.specs.DenoterTrees.{ArmTree, ArmTrees, ArrayTree, DenoterTree, DenoterTrees, FieldsTree, FixedTree, PartTree, SectionTree, SectionTrees}
use Rattle.pas_tree.specs.DenoterTrees.{StructureTree, VariantsTree}
use Rattle.pas_tree.specs.DenoterTrees as denoters
use Rattle.pas_tree.specs.HeadingTrees.{FormalTree, FormalTrees, FormalsTree, FunctionTree, HeadingTree, HeldFormals, ProcedureTree}
use Rattle.pas_tree.specs.HeadingTrees as headings
use Rattle.denoter_checker.specs.Parts.{types_in, variables_in}
use Rattle.rule_laws.proofs.{Entering.RecordsInBody, PlainBlocks.OwnRecords}
use Rattle.rule_laws.specs.FormalRoutines.{OfFormal, OfFormalList, OfFormals, OfFunction, OfHeading, OfOtherFormals, OfProcedure}
use Rattle.rule_laws.specs.TextParts.{InArm, InArms, InArray, InFields, InFixed, InIndexes, InPart, InSection, InSections, InStructure, InTypePart, InTypes}
use Rattle.rule_laws.specs.TextParts.{InVariablePart, InVariables, InVariants, OfRecords}

mutual
  denoter_all : (R : FieldsTree → Type 0) → ((f : FieldsTree) → R f) → (d : DenoterTree) → OfRecords R d
  denoter_all R h (denoters.a_type_name token) = tt
  denoter_all R h (denoters.an_enumeration e) = tt
  denoter_all R h (denoters.a_subrange first dots last) = tt
  denoter_all R h (denoters.a_pointer caret name) = tt
  denoter_all R h (denoters.a_structure packed s) = structure_all R h s

  structure_all : (R : FieldsTree → Type 0) → ((f : FieldsTree) → R f) → (s : StructureTree) → InStructure R s
  structure_all R h (denoters.an_array a) = array_all R h a
  structure_all R h (denoters.a_record word fields end) = (h fields, fields_all R h fields)
  structure_all R h (denoters.a_set_type word of base) = denoter_all R h base

  array_all : (R : FieldsTree → Type 0) → ((f : FieldsTree) → R f) → (a : ArrayTree) → InArray R a
  array_all R h (denoters.index_types word left first others right of component) = (denoter_all R h first, indexes_all R h others, denoter_all R h component)

  indexes_all : (R : FieldsTree → Type 0) → ((f : FieldsTree) → R f) → (r : DenoterTrees) → InIndexes R r
  indexes_all R h denoters.end_of_denoters = tt
  indexes_all R h (denoters.more_denoters comma d rest) = (denoter_all R h d, indexes_all R h rest)

  fields_all : (R : FieldsTree → Type 0) → ((f : FieldsTree) → R f) → (f : FieldsTree) → InFields R f
  fields_all R h denoters.without_fields = tt
  fields_all R h (denoters.fixed_fields fixed variants last) = (fixed_all R h fixed, part_all R h variants)
  fields_all R h (denoters.variant_fields variants last) = variants_all R h variants

  fixed_all : (R : FieldsTree → Type 0) → ((f : FieldsTree) → R f) → (f : FixedTree) → InFixed R f
  fixed_all R h (denoters.fixed_part first others) = (section_all R h first, sections_all R h others)

  section_all : (R : FieldsTree → Type 0) → ((f : FieldsTree) → R f) → (s : SectionTree) → InSection R s
  section_all R h (denoters.a_section names colon d) = denoter_all R h d

  sections_all : (R : FieldsTree → Type 0) → ((f : FieldsTree) → R f) → (s : SectionTrees) → InSections R s
  sections_all R h denoters.end_of_sections = tt
  sections_all R h (denoters.more_sections semicolon s rest) = (section_all R h s, sections_all R h rest)

  part_all : (R : FieldsTree → Type 0) → ((f : FieldsTree) → R f) → (p : PartTree) → InPart R p
  part_all R h denoters.without_part = tt
  part_all R h (denoters.a_part semicolon variants) = variants_all R h variants

  variants_all : (R : FieldsTree → Type 0) → ((f : FieldsTree) → R f) → (v : VariantsTree) → InVariants R v
  variants_all R h (denoters.arms word tag of_word first others) = (arm_all R h first, arms_all R h others)

  arm_all : (R : FieldsTree → Type 0) → ((f : FieldsTree) → R f) → (a : ArmTree) → InArm R a
  arm_all R h (denoters.an_arm constants colon left fields right) = fields_all R h fields

  arms_all : (R : FieldsTree → Type 0) → ((f : FieldsTree) → R f) → (a : ArmTrees) → InArms R a
  arms_all R h denoters.end_of_arms = tt
  arms_all R h (denoters.more_arms semicolon a rest) = (arm_all R h a, arms_all R h rest)

types_all : (R : FieldsTree → Type 0) → ((f : FieldsTree) → R f) → (ds : List TypeDefinitionTree) → InTypes R ds
types_all R h [] = tt
types_all R h (d ∷ ds) = (denoter_all R h d.denoter, types_all R h ds)

variables_all : (R : FieldsTree → Type 0) → ((f : FieldsTree) → R f) → (ds : List VariableDeclarationTree) → InVariables R ds
variables_all R h [] = tt
variables_all R h (d ∷ ds) = (denoter_all R h d.denoter, variables_all R h ds)

type_part_all : (R : FieldsTree → Type 0) → ((f : FieldsTree) → R f) → (p : Option TypePartTree) → InTypePart R p
type_part_all R h None = tt
type_part_all R h (Some p) = types_all R h (types_in p)

variable_part_all : (R : FieldsTree → Type 0) → ((f : FieldsTree) → R f) → (p : Option VariablePartTree) → InVariablePart R p
variable_part_all R h None = tt
variable_part_all R h (Some p) = variables_all R h (variables_in p)

pub own_all : (R : FieldsTree → Type 0) → ((f : FieldsTree) → R f) → (b : BlockTree) → OwnRecords R b
own_all R h (blocks.a_block labels consts kinds variable_part routines body) = (type_part_all R h kinds, variable_part_all R h variable_part)

pub body_all : (R : FieldsTree → Type 0) → ((f : FieldsTree) → R f) → (b : BodyTree) → RecordsInBody R b
body_all R h (blocks.a_directive directive) = tt
body_all R h (blocks.a_block_body b) = own_all R h b

-- ---- headings

mutual
  formals_all : (H : HeadingTree → Type 0) → ((h : HeadingTree) → H h) → (f : HeldFormals) → OfFormals H f
  formals_all H g headings.without_formals = tt
  formals_all H g (headings.some_formals f) = list_all H g f

  list_all : (H : HeadingTree → Type 0) → ((h : HeadingTree) → H h) → (f : FormalsTree) → OfFormalList H f
  list_all H g (headings.formal_list left first others right) = (formal_all H g first, others_all H g others)

  others_all : (H : HeadingTree → Type 0) → ((h : HeadingTree) → H h) → (f : FormalTrees) → OfOtherFormals H f
  others_all H g headings.end_of_formals = tt
  others_all H g (headings.more_formals semicolon f rest) = (formal_all H g f, others_all H g rest)

  formal_all : (H : HeadingTree → Type 0) → ((h : HeadingTree) → H h) → (f : FormalTree) → OfFormal H f
  formal_all H g (headings.value_formals f) = tt
  formal_all H g (headings.variable_formals word f) = tt
  formal_all H g (headings.a_routine_formal h) = (g h, heading_all H g h)

  pub heading_all : (H : HeadingTree → Type 0) → ((h : HeadingTree) → H h) → (h : HeadingTree) → OfHeading H h
  heading_all H g (headings.a_procedure p) = procedure_all H g p
  heading_all H g (headings.a_function f) = function_all H g f

  procedure_all : (H : HeadingTree → Type 0) → ((h : HeadingTree) → H h) → (p : ProcedureTree) → OfProcedure H p
  procedure_all H g (headings.procedure_heading word name formals) = formals_all H g formals

  function_all : (H : HeadingTree → Type 0) → ((h : HeadingTree) → H h) → (f : FunctionTree) → OfFunction H f
  function_all H g (headings.function_heading word name formals result) = formals_all H g formals
