-- What holds of each procedure and function in a block, and of each record type that is written there (6.2.1, 6.4.3.3).
use Rattle.std.specs.Prelude.{◌++◌, ◌∷◌, [], List, None, Option, Some}
use Rattle.pas_tree.specs.BlockTrees.{BlockTree, BodyTree, RoutineTree, RoutineTrees, TypeDefinitionTree, TypePartTree}
use Rattle.pas_tree.specs.BlockTrees.{VariableDeclarationTree, VariablePartTree}
use Rattle.pas_tree.specs.BlockTrees as blocks
use Rattle.pas_tree.specs.DenoterTrees.{ArmTree, ArmTrees, ArrayTree, DenoterTree, DenoterTrees, FieldsTree, FixedTree}
use Rattle.pas_tree.specs.DenoterTrees.{PartTree, SectionTree, SectionTrees, StructureTree, VariantsTree}
use Rattle.pas_tree.specs.DenoterTrees as denoters
use Rattle.denoter_checker.specs.Parts.{types_in, variables_in}

-- ---- procedures and functions

abbrev mutual
  -- this holds of each procedure and function of a block, and of those inside of them
  pub OfRoutines : (RoutineTree → Type 0) → BlockTree → Type 0
  OfRoutines P (blocks.a_block labels constants types variables routines body) = OfEach P routines

  pub OfEach : (RoutineTree → Type 0) → RoutineTrees → Type 0
  OfEach P blocks.end_of_routines = Unit {0}
  OfEach P (blocks.more_routines r rest) = OfRoutine P r × OfEach P rest

  pub OfRoutine : (RoutineTree → Type 0) → RoutineTree → Type 0
  OfRoutine P (blocks.a_routine heading semicolon body last_semicolon) =
      P (blocks.a_routine heading semicolon body last_semicolon) × OfBody P body

  pub OfBody : (RoutineTree → Type 0) → BodyTree → Type 0
  OfBody P (blocks.a_directive directive) = Unit {0}
  OfBody P (blocks.a_block_body b) = OfRoutines P b

abbrev mutual
  -- this holds of each procedure and function of a block after those before it in its part, and so of those inside
  -- of them
  pub OfRoutinesAfter : (List RoutineTree → RoutineTree → Type 0) → BlockTree → Type 0
  OfRoutinesAfter P (blocks.a_block labels constants types variables routines body) = OfEachAfter P [] routines

  pub OfEachAfter : (List RoutineTree → RoutineTree → Type 0) → List RoutineTree → RoutineTrees → Type 0
  OfEachAfter P before blocks.end_of_routines = Unit {0}
  OfEachAfter P before (blocks.more_routines r rest) =
      OfRoutineAfter P before r × OfEachAfter P (before ++ r ∷ []) rest

  pub OfRoutineAfter : (List RoutineTree → RoutineTree → Type 0) → List RoutineTree → RoutineTree → Type 0
  OfRoutineAfter P before (blocks.a_routine heading semicolon body last_semicolon) =
      P before (blocks.a_routine heading semicolon body last_semicolon) × OfBodyAfter P body

  pub OfBodyAfter : (List RoutineTree → RoutineTree → Type 0) → BodyTree → Type 0
  OfBodyAfter P (blocks.a_directive directive) = Unit {0}
  OfBodyAfter P (blocks.a_block_body b) = OfRoutinesAfter P b

-- ---- record types

abbrev mutual
  -- this holds of the fields of each record type that is written in a type, and inside of those
  pub OfRecords : (FieldsTree → Type 0) → DenoterTree → Type 0
  OfRecords P (denoters.a_type_name token) = Unit {0}
  OfRecords P (denoters.an_enumeration e) = Unit {0}
  OfRecords P (denoters.a_subrange first dots last) = Unit {0}
  OfRecords P (denoters.a_pointer caret name) = Unit {0}
  OfRecords P (denoters.a_structure packed s) = InStructure P s

  pub InStructure : (FieldsTree → Type 0) → StructureTree → Type 0
  InStructure P (denoters.an_array a) = InArray P a
  InStructure P (denoters.a_record word fields end) = P fields × InFields P fields
  InStructure P (denoters.a_set_type word of base) = OfRecords P base

  pub InArray : (FieldsTree → Type 0) → ArrayTree → Type 0
  InArray P (denoters.index_types word left first others right of component) =
      OfRecords P first × InIndexes P others × OfRecords P component

  pub InIndexes : (FieldsTree → Type 0) → DenoterTrees → Type 0
  InIndexes P denoters.end_of_denoters = Unit {0}
  InIndexes P (denoters.more_denoters comma d rest) = OfRecords P d × InIndexes P rest

  pub InFields : (FieldsTree → Type 0) → FieldsTree → Type 0
  InFields P denoters.without_fields = Unit {0}
  InFields P (denoters.fixed_fields fixed variants last) = InFixed P fixed × InPart P variants
  InFields P (denoters.variant_fields variants last) = InVariants P variants

  pub InFixed : (FieldsTree → Type 0) → FixedTree → Type 0
  InFixed P (denoters.fixed_part first others) = InSection P first × InSections P others

  pub InSection : (FieldsTree → Type 0) → SectionTree → Type 0
  InSection P (denoters.a_section names colon d) = OfRecords P d

  pub InSections : (FieldsTree → Type 0) → SectionTrees → Type 0
  InSections P denoters.end_of_sections = Unit {0}
  InSections P (denoters.more_sections semicolon s rest) = InSection P s × InSections P rest

  pub InPart : (FieldsTree → Type 0) → PartTree → Type 0
  InPart P denoters.without_part = Unit {0}
  InPart P (denoters.a_part semicolon variants) = InVariants P variants

  pub InVariants : (FieldsTree → Type 0) → VariantsTree → Type 0
  InVariants P (denoters.arms word tag of_word first others) = InArm P first × InArms P others

  pub InArm : (FieldsTree → Type 0) → ArmTree → Type 0
  InArm P (denoters.an_arm constants colon left fields right) = InFields P fields

  pub InArms : (FieldsTree → Type 0) → ArmTrees → Type 0
  InArms P denoters.end_of_arms = Unit {0}
  InArms P (denoters.more_arms semicolon a rest) = InArm P a × InArms P rest

abbrev pub InTypes : (FieldsTree → Type 0) → List TypeDefinitionTree → Type 0
InTypes P [] = Unit {0}
InTypes P (d ∷ ds) = OfRecords P d.denoter × InTypes P ds

abbrev pub InVariables : (FieldsTree → Type 0) → List VariableDeclarationTree → Type 0
InVariables P [] = Unit {0}
InVariables P (d ∷ ds) = OfRecords P d.denoter × InVariables P ds

abbrev pub InTypePart : (FieldsTree → Type 0) → Option TypePartTree → Type 0
InTypePart P None = Unit {0}
InTypePart P (Some p) = InTypes P (types_in p)

abbrev pub InVariablePart : (FieldsTree → Type 0) → Option VariablePartTree → Type 0
InVariablePart P None = Unit {0}
InVariablePart P (Some p) = InVariables P (variables_in p)

abbrev mutual
  -- and of each that is written in a block, also in its procedures and functions
  pub OfRecordsIn : (FieldsTree → Type 0) → BlockTree → Type 0
  OfRecordsIn P (blocks.a_block labels constants types variables routines body) =
      InTypePart P types × InVariablePart P variables × InRoutines P routines

  pub InRoutines : (FieldsTree → Type 0) → RoutineTrees → Type 0
  InRoutines P blocks.end_of_routines = Unit {0}
  InRoutines P (blocks.more_routines r rest) = InRoutine P r × InRoutines P rest

  pub InRoutine : (FieldsTree → Type 0) → RoutineTree → Type 0
  InRoutine P (blocks.a_routine heading semicolon body last_semicolon) = InBody P body

  pub InBody : (FieldsTree → Type 0) → BodyTree → Type 0
  InBody P (blocks.a_directive directive) = Unit {0}
  InBody P (blocks.a_block_body b) = OfRecordsIn P b
