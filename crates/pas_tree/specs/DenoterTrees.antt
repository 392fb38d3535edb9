-- Type denoters without memory: one constructor a rule.
use Rattle.std.specs.Prelude.{◌∷◌, [], ℕ, List, None, Option, Some}
use Rattle.pas_tree.specs.ConstantTrees.{ConstantsTree, NamesTree, constants_tree, names_tree}
use Rattle.pas_tree.specs.declared.{constants.Constant.Constant, denoters.Fields.Variants' as FieldsVariants'}
use Rattle.pas_tree.specs.declared.denoters.{Arm.Arm, NextArm.NextArm, NextDenoter.NextDenoter, NextSection.NextSection}
use Rattle.pas_tree.specs.declared.denoters.{Section.Section, Tag.Tag, Variants.more_of-NextArm}
use Rattle.pas_tree.specs.declared.denoters.ArrayDenoter.{ArrayDenoter, ArrayDenoter', Row_of-NextDenoter}
use Rattle.pas_tree.specs.declared.denoters.ArrayDenoter.{end_of-NextDenoter, more_of-NextDenoter}
use Rattle.pas_tree.specs.declared.denoters.Denoter.{Denoter, Enumeration, Name, Pointer, Structure', Subrange}
use Rattle.pas_tree.specs.declared.denoters.Enumeration.{Enumeration as EnumerationOf}
use Rattle.pas_tree.specs.declared.denoters.Fields.{Empty, Fields, Fixed', Held-Fields-Fixed-1, None', Some'}
use Rattle.pas_tree.specs.declared.denoters.Fixed.{Fixed as FixedOf, Fixed' as FixedOf', Row_of-NextSection}
use Rattle.pas_tree.specs.declared.denoters.Fixed.{end_of-NextSection, more_of-NextSection}
use Rattle.pas_tree.specs.declared.denoters.NextVariants.{NextVariants, NextVariants', out-NextVariants}
use Rattle.pas_tree.specs.declared.denoters.Structure.{Array, Record', Set', Structure}
use Rattle.pas_tree.specs.declared.denoters.Variants.{Row_of-NextArm, Variants as VariantsOf, Variants', end_of-NextArm}

pub record EnumerationTree : Type 0 where
  pub left : ℕ
  pub names : NamesTree
  pub right : ℕ

mutual
  pub data DenoterTree : Type 0 where
    a_type_name : (token : ℕ) → DenoterTree
    an_enumeration : (enumeration : EnumerationTree) → DenoterTree
    a_subrange : (first : Constant) (dots : ℕ) (last : Constant) → DenoterTree
    a_pointer : (caret name : ℕ) → DenoterTree
    a_structure : (packed : Option ℕ) (structure : StructureTree) → DenoterTree

  pub data StructureTree : Type 0 where
    an_array : (array : ArrayTree) → StructureTree
    a_record : (word : ℕ) (fields : FieldsTree) (last : ℕ) → StructureTree
    a_set_type : (word of_word : ℕ) (base : DenoterTree) → StructureTree

  pub data ArrayTree : Type 0 where
    index_types : (word left : ℕ) (first : DenoterTree) (others : DenoterTrees) (right of_word : ℕ)
        (component : DenoterTree) → ArrayTree

  pub data DenoterTrees : Type 0 where
    end_of_denoters : DenoterTrees
    more_denoters : (comma : ℕ) (denoter : DenoterTree) (rest : DenoterTrees) → DenoterTrees

  pub data FieldsTree : Type 0 where
    without_fields : FieldsTree
    fixed_fields : (fixed : FixedTree) (variants : PartTree) (last : Option ℕ) → FieldsTree
    variant_fields : (variants : VariantsTree) (last : Option ℕ) → FieldsTree

  pub data FixedTree : Type 0 where
    fixed_part : (first : SectionTree) (others : SectionTrees) → FixedTree

  pub data SectionTree : Type 0 where
    a_section : (names : NamesTree) (colon : ℕ) (denoter : DenoterTree) → SectionTree

  pub data SectionTrees : Type 0 where
    end_of_sections : SectionTrees
    more_sections : (semicolon : ℕ) (section : SectionTree) (rest : SectionTrees) → SectionTrees

  -- the variant part after a fixed part, if there is one
  pub data PartTree : Type 0 where
    without_part : PartTree
    a_part : (semicolon : ℕ) (variants : VariantsTree) → PartTree

  pub data VariantsTree : Type 0 where
    arms : (word : ℕ) (tag : Tag) (of_word : ℕ) (first : ArmTree) (others : ArmTrees) → VariantsTree

  pub data ArmTree : Type 0 where
    an_arm : (constants : ConstantsTree) (colon left : ℕ) (fields : FieldsTree) (right : ℕ) → ArmTree

  pub data ArmTrees : Type 0 where
    end_of_arms : ArmTrees
    more_arms : (semicolon : ℕ) (arm : ArmTree) (rest : ArmTrees) → ArmTrees

-- ---- the views

abbrev pub enumeration_tree : EnumerationOf → EnumerationTree
enumeration_tree e = record { left = e.«open»; names = names_tree e.names; right = e.close }

abbrev mutual
  pub denoter_tree : Denoter → DenoterTree
  denoter_tree (Name token) = a_type_name token
  denoter_tree (Enumeration e) = an_enumeration (enumeration_tree e)
  denoter_tree (Subrange first dots last) = a_subrange first dots last
  denoter_tree (Pointer caret name) = a_pointer caret name
  denoter_tree (Structure' packed _ s) = a_structure packed (structure_tree s)

  pub structure_tree : Structure → StructureTree
  structure_tree (Array a) = an_array (array_tree a)
  structure_tree (Record' word fields end) = a_record word (fields_tree fields) end
  structure_tree (Set' word of base) = a_set_type word of (denoter_tree base)

  pub array_tree : ArrayDenoter → ArrayTree
  array_tree (ArrayDenoter' word open' first _ others close of component) =
      index_types word open' (denoter_tree first) (denoter_row others) close of (denoter_tree component)

  pub denoter_row : {m : _} → Row_of-NextDenoter m → DenoterTrees
  denoter_row end_of-NextDenoter = end_of_denoters
  denoter_row (more_of-NextDenoter comma denoter rest) = more_denoters comma (denoter_tree denoter) (denoter_row rest)

  pub fields_tree : Fields → FieldsTree
  fields_tree Empty = without_fields
  fields_tree (Fixed' fixed variants last) = fixed_fields (fixed_tree fixed) (part_tree variants) last
  fields_tree (FieldsVariants' _ variants last) = variant_fields (variants_tree variants) last

  pub fixed_tree : FixedOf → FixedTree
  fixed_tree (FixedOf' names colon denoter _ others) =
      fixed_part (a_section (names_tree names) colon (denoter_tree denoter)) (section_row others)

  pub section_row : {m : _} → Row_of-NextSection m → SectionTrees
  section_row end_of-NextSection = end_of_sections
  section_row (more_of-NextSection semicolon names colon denoter rest) =
      more_sections semicolon (a_section (names_tree names) colon (denoter_tree denoter)) (section_row rest)

  pub part_tree : Held-Fields-Fixed-1 → PartTree
  part_tree None' = without_part
  part_tree (Some' (NextVariants' semicolon _ variants)) = a_part semicolon (variants_tree variants)

  pub variants_tree : VariantsOf → VariantsTree
  variants_tree (Variants' word tag of constants colon open' fields close _ others) =
      arms word tag of (an_arm (constants_tree constants) colon open' (fields_tree fields) close) (arm_row others)

  pub arm_row : {m : _} → Row_of-NextArm m → ArmTrees
  arm_row end_of-NextArm = end_of_arms
  arm_row (more_of-NextArm semicolon constants colon open' fields close rest) =
      more_arms semicolon (an_arm (constants_tree constants) colon open' (fields_tree fields) close) (arm_row rest)

-- ---- the same of what the code holds

abbrev pub denoter_trees : List NextDenoter → DenoterTrees
denoter_trees [] = end_of_denoters
denoter_trees (n ∷ rest) = more_denoters n.comma (denoter_tree n.denoter) (denoter_trees rest)

abbrev pub section_tree : Section → SectionTree
section_tree s = a_section (names_tree s.names) s.colon (denoter_tree s.denoter)

abbrev pub section_trees : List NextSection → SectionTrees
section_trees [] = end_of_sections
section_trees (n ∷ rest) = more_sections n.semicolon (section_tree n.section) (section_trees rest)

abbrev pub arm_tree : Arm → ArmTree
arm_tree a = an_arm (constants_tree a.constants) a.colon a.«open» (fields_tree a.fields) a.close

abbrev pub arm_trees : List NextArm → ArmTrees
arm_trees [] = end_of_arms
arm_trees (n ∷ rest) = more_arms n.semicolon (arm_tree n.arm) (arm_trees rest)

abbrev pub part_in : Option NextVariants → PartTree
part_in None = without_part
part_in (Some n) = a_part (out-NextVariants n).semicolon (variants_tree (out-NextVariants n).variants.value)
