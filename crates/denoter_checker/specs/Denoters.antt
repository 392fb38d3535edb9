-- Type denoters (6.4): an equation for each construct.
use Rattle.std.specs.Prelude.{◌+◌, ℕ, Bool, None, Option, Some, is_none, is_some}
use Rattle.pas_tree.specs.DenoterPlaces.{first_of_denoter}
use Rattle.pas_tree.specs.DenoterTrees.{ArmTree, ArmTrees, ArrayTree, DenoterTree, DenoterTrees, FieldsTree, FixedTree}
use Rattle.pas_tree.specs.DenoterTrees.{PartTree, SectionTree, SectionTrees, StructureTree, VariantsTree}
use Rattle.pas_tree.specs.DenoterTrees as tree
use Rattle.pas_tree.specs.declared.denoters.{NextArm.NextArm, NextDenoter.NextDenoter, NextSection.NextSection, Tag.Tag}
use Rattle.core_program.specs.ProgramRows.{size_of}
use Rattle.core_program.specs.declared.rows.{NameRow.NameRow, Row.Row, TypeRow.TypeRow}
use Rattle.check_steps.specs.Known.{frame_at}
use Rattle.check_steps.specs.Steps.{◌>>=◌, Step, give, look, open_region, put}
use Rattle.kind_checker.specs.{Constants.constant, Names.each_name, Sizes.capped, declared.types.Scope.Scope}
use Rattle.kind_checker.specs.Types.{enumeration, named_type, ordinal, pointer_type, set_type, subrange}
use Rattle.denoter_checker.specs.{Arrays.array, Arrays.joined, Arrays.put_index, Defines.define_record}
use Rattle.denoter_checker.specs.Variants.{arm_choices, choosing_at, nothing_listed, tag_part, variant_part}
use Rattle.denoter_checker.specs.declared.variants.{Choosing.Choosing, Listed.Listed, PartPlace.PartPlace}

-- ---- records

-- a region of fields that begins at the word `record`; the number of its frame is given
unfoldable pub open_record : ℕ → ℕ → Step ℕ
open_record frame word = do
  level ← look (λ k. (frame_at k frame).level)
  open_region word (Some frame) level

-- the same part of a program, seen from the region of a record in it
abbrev pub scope_inside : Scope → ℕ → Scope
scope_inside s frame = record { frame = frame; domains_at = s.domains_at }

-- a field of a type, after the cells of those before
unfoldable pub field_place : ℕ → ℕ → ℕ → ℕ → Step ℕ
field_place holder t offset token = do
  _ ← put token (Row.Name (NameRow.Field t offset holder))
  cells ← look (λ k. size_of k.program t)
  give (capped (offset + cells))

-- a record type, at its word `record`
unfoldable pub put_record : Bool → ℕ → ℕ → ℕ → Option ℕ → Step ℕ
put_record packed word frame cells variants = do
  region ← look (λ k. (frame_at k frame).region)
  _ ← put word (Row.Type (TypeRow.Record packed region cells variants))
  give word

abbrev pub case_word : VariantsTree → ℕ
case_word (tree.arms word tag of_word first others) = word

abbrev pub part_word : PartTree → Option ℕ
part_word tree.without_part = None
part_word (tree.a_part semicolon variants) = Some (case_word variants)

-- the number of a variant part
abbrev pub variants_word : FieldsTree → Option ℕ
variants_word tree.without_fields = None
variants_word (tree.fixed_fields fixed part last) = part_word part
variants_word (tree.variant_fields variants last) = Some (case_word variants)

abbrev pub part_at : Scope → ℕ → ℕ → ℕ → PartPlace
part_at s word holder offset = record { frame = s.frame; word = word; holder = holder; offset = offset }

abbrev pub arm_chosen : Choosing → Listed → ℕ → ArmTree → Step Listed
arm_chosen c l slot (tree.an_arm constants colon left fields right) = arm_choices c l slot left constants

abbrev pub more_choices : Choosing → Listed → ArmTrees → Step Listed
more_choices c l tree.end_of_arms = give l
more_choices c l (tree.more_arms semicolon arm rest) = do
  next ← arm_chosen c l semicolon arm
  more_choices c next rest

-- the tag of a variant part, and the values that choose its first variant and the others
unfoldable pub choosing_of : PartPlace → Tag → ℕ → ArmTree → ArmTrees → Step Listed
choosing_of p tag of_word first others = do
  host ← tag_part p tag.field tag.name
  one ← arm_chosen (choosing_at p host of_word) (nothing_listed p.word) of_word first
  more_choices (choosing_at p host of_word) one others

abbrev pub choosing_in : PartPlace → VariantsTree → Step Listed
choosing_in p (tree.arms word tag of_word first others) = choosing_of p tag of_word first others

abbrev pub joins : Bool → ℕ → DenoterTrees → Step ℕ
joins packed t tree.end_of_denoters = give t
joins packed t (tree.more_denoters comma d rest) = joins packed t rest >>= λ inner. joined packed inner comma

-- a further index type, at its comma, by what it is itself
abbrev pub index_by : ℕ → ℕ → ℕ → Step ℕ → Step (Unit {0})
index_by word comma first m = do
  written ← m
  index ← ordinal first word written
  put_index comma index

-- ---- denoters

abbrev mutual
  -- the type that is written, by its number
  pub denoter : Scope → DenoterTree → Step ℕ
  denoter s (tree.a_type_name token) = named_type s.frame token
  denoter s (tree.an_enumeration e) = enumeration e
  denoter s (tree.a_subrange first dots last) = do
    a ← constant s.frame first
    b ← constant s.frame last
    subrange a dots b
  denoter s (tree.a_pointer caret name) = pointer_type s caret name
  denoter s (tree.a_structure packed x) = structure s (is_some packed) x

  pub structure : Scope → Bool → StructureTree → Step ℕ
  structure s packed (tree.an_array a) = array_denoter s packed a
  structure s packed (tree.a_record word fields last) = do
    frame ← open_record s.frame word
    _ ← define_record frame fields
    cells ← fields_at (scope_inside s frame) word 0 fields
    put_record packed word frame cells (variants_word fields)
  structure s packed (tree.a_set_type word of_word base) = do
    written ← denoter s base
    set_type packed word (first_of_denoter base) of_word written

  -- the index types, then the component type, and then the arrays from the last one on
  pub array_denoter : Scope → Bool → ArrayTree → Step ℕ
  array_denoter s packed (tree.index_types word left first others right of_word component) = do
    written ← denoter s first
    index ← ordinal (first_of_denoter first) word written
    _ ← other_indexes s word others
    t ← denoter s component
    inner ← joins packed t others
    array packed left index inner

  pub other_indexes : Scope → ℕ → DenoterTrees → Step (Unit {0})
  other_indexes s word tree.end_of_denoters = give tt
  other_indexes s word (tree.more_denoters comma d rest) = do
    _ ← index_by word comma (first_of_denoter d) (denoter s d)
    other_indexes s word rest

  -- the fields of a holder from a place on; the place after them is given
  pub fields_at : Scope → ℕ → ℕ → FieldsTree → Step ℕ
  fields_at s holder offset tree.without_fields = give offset
  fields_at s holder offset (tree.fixed_fields fixed part last) = do
    next ← fixed_at s holder offset fixed
    variants_after s holder next part
  fields_at s holder offset (tree.variant_fields variants last) = variants_at s holder offset variants

  pub fixed_at : Scope → ℕ → ℕ → FixedTree → Step ℕ
  fixed_at s holder offset (tree.fixed_part first others) = do
    next ← section s holder offset first
    more_sections s holder next others

  pub section : Scope → ℕ → ℕ → SectionTree → Step ℕ
  section s holder offset (tree.a_section names colon d) = do
    t ← denoter s d
    each_name (field_place holder t) offset names

  pub more_sections : Scope → ℕ → ℕ → SectionTrees → Step ℕ
  more_sections s holder offset tree.end_of_sections = give offset
  more_sections s holder offset (tree.more_sections semicolon x rest) = do
    next ← section s holder offset x
    more_sections s holder next rest

  pub variants_after : Scope → ℕ → ℕ → PartTree → Step ℕ
  variants_after s holder offset tree.without_part = give offset
  variants_after s holder offset (tree.a_part semicolon variants) = variants_at s holder offset variants

  -- the tag's cell, and then the cells of all variants in order
  pub variants_at : Scope → ℕ → ℕ → VariantsTree → Step ℕ
  variants_at s holder offset (tree.arms word tag of_word first others) = do
    _ ← choosing_of (part_at s word holder offset) tag of_word first others
    next ← arm_at s (capped (offset + 1)) first
    end ← arms_at s next others
    variant_part (part_at s word holder offset) (is_none tag.field) of_word end

  pub arm_at : Scope → ℕ → ArmTree → Step ℕ
  arm_at s offset (tree.an_arm constants colon left fields right) = fields_at s left offset fields

  pub arms_at : Scope → ℕ → ArmTrees → Step ℕ
  arms_at s offset tree.end_of_arms = give offset
  arms_at s offset (tree.more_arms semicolon arm rest) = do
    next ← arm_at s offset arm
    arms_at s next rest

-- a record, by what it holds
abbrev pub record_type : Scope → Bool → ℕ → FieldsTree → Step ℕ
record_type s packed word fields = do
  frame ← open_record s.frame word
  _ ← define_record frame fields
  cells ← fields_at (scope_inside s frame) word 0 fields
  put_record packed word frame cells (variants_word fields)

-- ---- one more of what the code holds

unfoldable pub next_index : Scope → ℕ → Unit {0} → NextDenoter → Step (Unit {0})
next_index s word u n =
    let d = tree.denoter_tree n.denoter in
    index_by word n.comma (first_of_denoter d) (denoter s d)

unfoldable pub next_section : Scope → ℕ → ℕ → NextSection → Step ℕ
next_section s holder offset n = section s holder offset (tree.section_tree n.section)

unfoldable pub next_arm : Scope → ℕ → NextArm → Step ℕ
next_arm s offset n = fields_at s n.arm.«open» offset (tree.fields_tree n.arm.fields)
