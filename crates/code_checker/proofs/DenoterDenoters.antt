-- What the steps of `Rattle.denoter_checker.specs.Denoters` keep.
use Rattle.std.proofs.Common.{◌+◌, ℕ, Bool, Option, Some, false, is_none, is_some}
use Rattle.grammar.specs.Nodes.{Node}
use Rattle.pas_tree.specs.{DenoterPlaces.first_of_denoter, DenoterTrees.StructureTree, DenoterTrees.VariantsTree, Denoters.last_semicolon_node}
use Rattle.pas_tree.specs.{Denoters.tag_node, TreeNodes.sections_node, TreeNodes.structure_node, TreeNodes.variants_node, declared.denoters.Tag.Tag}
use Rattle.pas_tree.specs.DenoterTrees.{ArmTree, ArmTrees, ArrayTree, DenoterTree, DenoterTrees, FieldsTree, FixedTree, PartTree, SectionTree, SectionTrees}
use Rattle.pas_tree.specs.DenoterTrees as tree
use Rattle.pas_tree.specs.TreeNodes.{arm_node, arms_node, array_node, denoter_node, denoters_node, fields_node, fixed_node, next_variants_node, section_node}
use Rattle.core_program.specs.{ProgramRows.size_of, declared.rows.NameRow.NameRow, declared.rows.Row.Row, declared.rows.TypeRow.TypeRow}
use Rattle.check_steps.specs.Known.{frame_at}
use Rattle.kind_checker.specs.{Sizes.capped, declared.types.Scope.Scope}
use Rattle.denoter_checker.specs.{Denoters.variants_after, Denoters.variants_at, Denoters.variants_word, Variants.choosing_at, Variants.nothing_listed}
use Rattle.denoter_checker.specs.Denoters.{arm_at, arm_chosen, arms_at, array_denoter, choosing_of, denoter, field_place, fields_at, fixed_at, joins}
use Rattle.denoter_checker.specs.Denoters.{more_choices, more_sections, open_record, other_indexes, part_at, put_record, scope_inside, section, structure}
use Rattle.denoter_checker.specs.declared.variants.{Choosing.Choosing, Listed.Listed, PartPlace.PartPlace}
use Rattle.code_checker.proofs.{DenoterDefines.define_record-holds, KindConstants.constant-holds, KindNames.each_name-holds, Within.Within}
use Rattle.code_checker.proofs.DenoterArrays.{array-holds, joined-holds, put_index-holds}
use Rattle.code_checker.proofs.DenoterVariants.{arm_choices-holds, tag_part-holds, variant_part-holds}
use Rattle.code_checker.proofs.KindTypes.{enumeration-holds, named_type-holds, ordinal-holds, pointer_type-holds, set_type-holds, subrange-holds}
use Rattle.code_checker.proofs.Steps.{Holds, bind-holds, give-holds, look-holds, open_region-holds, put-holds}
use Rattle.code_checker.proofs.TokenPlaces.{first_of_denoter-in, fixed_end, tag_name-in}

pub open_record-holds : {size : ℕ} {later : Bool} (frame : ℕ) (word : ℕ) → Holds size later (open_record frame word)
unfolding open_record
open_record-holds frame word = bind-holds (look-holds (λ k. (frame_at k frame).level)) (λ level. open_region-holds word (Some frame) level)

pub field_place-holds : {size : ℕ} {later : Bool} (holder : ℕ) (t : ℕ) (offset : ℕ) (token : ℕ) → Holds size later (field_place holder t offset token)
unfolding field_place
field_place-holds holder t offset token = bind-holds (put-holds token (Row.Name (NameRow.Field t offset holder))) (λ _. bind-holds (look-holds
    (λ k. size_of k.program t)) (λ cells. give-holds (capped (offset + cells))))

pub put_record-holds : {size : ℕ} {later : Bool} (packed : Bool) (word : ℕ) (frame : ℕ) (cells : ℕ) (variants : Option ℕ)
    → Holds size later (put_record packed word frame cells variants)
unfolding put_record
put_record-holds packed word frame cells variants = bind-holds (look-holds (λ k. (frame_at k frame).region)) (λ region.
    bind-holds (put-holds word (Row.Type (TypeRow.Record packed region cells variants))) (λ _. give-holds word))

pub arm_chosen-holds : {size : ℕ} (c : Choosing) (l : Listed) (slot : ℕ) (arm : ArmTree) → Within size (arm_node arm)
    → Holds size false (arm_chosen c l slot arm)
arm_chosen-holds c l slot (tree.an_arm constants colon open' fields close) arm-in = arm_choices-holds c l slot open' constants arm-in.0

pub more_choices-holds : {size : ℕ} (c : Choosing) (l : Listed) (rest : ArmTrees) (end : Node) → Within size (arms_node rest end)
    → Holds size false (more_choices c l rest)
more_choices-holds c l tree.end_of_arms end rest-in = give-holds l
more_choices-holds c l (tree.more_arms semicolon arm rest) end rest-in =
    bind-holds (arm_chosen-holds c l semicolon arm rest-in.1.0) (λ next. more_choices-holds c next rest end rest-in.1.1)

pub choosing_of-holds : {size : ℕ} (p : PartPlace) (tag : Tag) (of_word : ℕ) (first : ArmTree) (others : ArmTrees) (end : Node)
    → Within size (tag_node tag) → Within size (arm_node first) → Within size (arms_node others end)
    → Holds size false (choosing_of p tag of_word first others)
unfolding choosing_of
choosing_of-holds p tag of_word first others end tag-in first-in others-in =
    bind-holds (tag_part-holds p tag.field tag.name tag.name tag-in (tag_name-in tag.field tag.name tag-in)) (λ host.
    bind-holds (arm_chosen-holds (choosing_at p host of_word) (nothing_listed p.word) of_word first first-in) (λ one.
    more_choices-holds (choosing_at p host of_word) one others end others-in))

pub joins-holds : {size : ℕ} {later : Bool} (packed : Bool) (t : ℕ) (next_denoter : DenoterTrees) → Within size (denoters_node next_denoter)
    → Holds size later (joins packed t next_denoter)
joins-holds packed t tree.end_of_denoters next_denoter-in = give-holds t
joins-holds packed t (tree.more_denoters comma d rest) next_denoter-in = bind-holds (joins-holds packed t rest next_denoter-in.1) (λ inner.
    joined-holds packed inner comma)

mutual
  pub denoter-holds : {size : ℕ} (s : Scope) (denoter' : DenoterTree) → Within size (denoter_node denoter') → Holds size false (denoter s denoter')
  denoter-holds s (tree.a_type_name token) denoter-in = named_type-holds s.frame token denoter-in.0
  denoter-holds s (tree.an_enumeration e) denoter-in = enumeration-holds e denoter-in
  denoter-holds s (tree.a_subrange first dots last) denoter-in = bind-holds (constant-holds s.frame first denoter-in.0) (λ a.
      bind-holds (constant-holds s.frame last denoter-in.1.1) (λ b. subrange-holds a dots b denoter-in.1.0))
  denoter-holds s (tree.a_pointer caret name) denoter-in = pointer_type-holds s caret name denoter-in.1
  denoter-holds s (tree.a_structure packed x) denoter-in = structure-holds s (is_some packed) x denoter-in.1

  pub structure-holds : {size : ℕ} (s : Scope) (packed : Bool) (structure' : StructureTree) → Within size (structure_node structure')
      → Holds size false (structure s packed structure')
  structure-holds s packed (tree.an_array a) structure-in = array_denoter-holds s packed a structure-in
  structure-holds s packed (tree.a_record word fields end) structure-in = bind-holds (open_record-holds s.frame word) (λ frame.
      bind-holds (define_record-holds frame fields structure-in.1.0) (λ _. bind-holds (fields_at-holds (scope_inside s frame) word 0 fields structure-in.1.0)
      (λ cells. put_record-holds packed word frame cells (variants_word fields))))
  structure-holds s packed (tree.a_set_type word of base) structure-in = bind-holds (denoter-holds s base structure-in.1.1) (λ written.
      set_type-holds packed word (first_of_denoter base) of written (first_of_denoter-in base structure-in.1.1))

  pub array_denoter-holds : {size : ℕ} (s : Scope) (packed : Bool) (array_denoter' : ArrayTree) → Within size (array_node array_denoter')
      → Holds size false (array_denoter s packed array_denoter')
  array_denoter-holds s packed (tree.index_types word open' first others close of component) array_denoter-in =
      bind-holds (denoter-holds s first array_denoter-in.1.1.0) (λ written.
      bind-holds (ordinal-holds (first_of_denoter first) word written (first_of_denoter-in first array_denoter-in.1.1.0)) (λ index.
      bind-holds (other_indexes-holds s word others array_denoter-in.1.1.1.0) (λ _. bind-holds (denoter-holds s component array_denoter-in.1.1.1.1.1.1) (λ t.
      bind-holds (joins-holds packed t others array_denoter-in.1.1.1.0) (λ inner. array-holds packed open' index inner)))))

  pub other_indexes-holds : {size : ℕ} (s : Scope) (word : ℕ) (next_denoter : DenoterTrees) → Within size (denoters_node next_denoter)
      → Holds size false (other_indexes s word next_denoter)
  other_indexes-holds s word tree.end_of_denoters next_denoter-in = give-holds tt
  other_indexes-holds s word (tree.more_denoters comma d rest) next_denoter-in =
      bind-holds (bind-holds (denoter-holds s d next_denoter-in.0.1) (λ written.
      bind-holds (ordinal-holds (first_of_denoter d) word written (first_of_denoter-in d next_denoter-in.0.1)) (λ index. put_index-holds comma index)))
      (λ _. other_indexes-holds s word rest next_denoter-in.1)

  pub fields_at-holds : {size : ℕ} (s : Scope) (holder : ℕ) (offset : ℕ) (fields : FieldsTree) → Within size (fields_node fields)
      → Holds size false (fields_at s holder offset fields)
  fields_at-holds s holder offset tree.without_fields fields-in = give-holds offset
  fields_at-holds {size = size} s holder offset (tree.fixed_fields fixed part last) fields-in =
      bind-holds (fixed_at-holds s holder offset fixed (next_variants_node part last) fields-in) (λ next.
      variants_after-holds s holder next part last (fixed_end size fixed (next_variants_node part last) fields-in))
  fields_at-holds s holder offset (tree.variant_fields variants last) fields-in = variants_at-holds s holder offset variants last fields-in

  pub fixed_at-holds : {size : ℕ} (s : Scope) (holder : ℕ) (offset : ℕ) (fixed : FixedTree) (end : Node) → Within size (fixed_node fixed end)
      → Holds size false (fixed_at s holder offset fixed)
  fixed_at-holds s holder offset (tree.fixed_part first others) end fixed-in =
      bind-holds (section-holds s holder offset first fixed-in.0) (λ next. more_sections-holds s holder next others end fixed-in.1)

  pub section-holds : {size : ℕ} (s : Scope) (holder : ℕ) (offset : ℕ) (x : SectionTree) → Within size (section_node x)
      → Holds size false (section s holder offset x)
  section-holds s holder offset (tree.a_section names colon d) x-in = bind-holds (denoter-holds s d x-in.1.1) (λ t.
      each_name-holds (field_place holder t) offset names (λ a x h. field_place-holds holder t a x) x-in.0)

  pub more_sections-holds : {size : ℕ} (s : Scope) (holder : ℕ) (offset : ℕ) (rest : SectionTrees) (end : Node) → Within size (sections_node rest end)
      → Holds size false (more_sections s holder offset rest)
  more_sections-holds s holder offset tree.end_of_sections end rest-in = give-holds offset
  more_sections-holds s holder offset (tree.more_sections semicolon x rest) end rest-in =
      bind-holds (section-holds s holder offset x rest-in.1.0) (λ next. more_sections-holds s holder next rest end rest-in.1.1)

  pub variants_after-holds : {size : ℕ} (s : Scope) (holder : ℕ) (offset : ℕ) (x : PartTree) (last : Option ℕ) → Within size (next_variants_node x last)
      → Holds size false (variants_after s holder offset x)
  variants_after-holds s holder offset tree.without_part last x-in = give-holds offset
  variants_after-holds s holder offset (tree.a_part semicolon variants) last x-in = variants_at-holds s holder offset variants last x-in.1

  pub variants_at-holds : {size : ℕ} (s : Scope) (holder : ℕ) (offset : ℕ) (variants : VariantsTree) (last : Option ℕ)
      → Within size (variants_node variants last) → Holds size false (variants_at s holder offset variants)
  variants_at-holds s holder offset (tree.arms word tag of_word first others) last variants-in =
      bind-holds (choosing_of-holds (part_at s word holder offset) tag of_word first others (last_semicolon_node last) variants-in.1.0 variants-in.1.1.1.0
      variants-in.1.1.1.1) (λ _. bind-holds (arm_at-holds s (capped (offset + 1)) first variants-in.1.1.1.0) (λ next.
      bind-holds (arms_at-holds s next others (last_semicolon_node last) variants-in.1.1.1.1) (λ end.
      variant_part-holds (part_at s word holder offset) (is_none tag.field) of_word end)))

  pub arm_at-holds : {size : ℕ} (s : Scope) (offset : ℕ) (arm : ArmTree) → Within size (arm_node arm) → Holds size false (arm_at s offset arm)
  arm_at-holds s offset (tree.an_arm constants colon open' fields close) arm-in = fields_at-holds s open' offset fields arm-in.1.1.1.0

  pub arms_at-holds : {size : ℕ} (s : Scope) (offset : ℕ) (rest : ArmTrees) (end : Node) → Within size (arms_node rest end)
      → Holds size false (arms_at s offset rest)
  arms_at-holds s offset tree.end_of_arms end rest-in = give-holds offset
  arms_at-holds s offset (tree.more_arms semicolon arm rest) end rest-in =
      bind-holds (arm_at-holds s offset arm rest-in.1.0) (λ next. arms_at-holds s next rest end rest-in.1.1)
