-- What the steps of `Rattle.denoter_checker.specs.Denoters` leave at other tokens.
use Rattle.std.proofs.Common.{◌+◌, ℕ, Bool, Option, Some, is_none, is_some}
use Rattle.grammar.specs.Nodes.{Node}
use Rattle.pas_tree.specs.{DenoterPlaces.first_of_denoter, DenoterTrees.StructureTree, DenoterTrees.VariantsTree, Denoters.last_semicolon_node}
use Rattle.pas_tree.specs.{Denoters.tag_node, TreeNodes.sections_node, TreeNodes.structure_node, TreeNodes.variants_node, declared.denoters.Tag.Tag}
use Rattle.pas_tree.specs.DenoterTrees.{ArmTree, ArmTrees, ArrayTree, DenoterTree, DenoterTrees, FieldsTree, FixedTree, PartTree, SectionTree, SectionTrees}
use Rattle.pas_tree.specs.DenoterTrees as tree
use Rattle.pas_tree.specs.TreeNodes.{arm_node, arms_node, array_node, denoter_node, denoters_node, fields_node, fixed_node, next_variants_node, section_node}
use Rattle.core_program.specs.{ProgramRows.size_of, declared.rows.NameRow.NameRow, declared.rows.Row.Row, declared.rows.TypeRow.TypeRow}
use Rattle.check_steps.specs.Known.{frame_at}
use Rattle.kind_checker.specs.{Sizes.capped, declared.types.Scope.Scope}
use Rattle.denoter_checker.specs.{Denoters.variants_after, Denoters.variants_at, Denoters.variants_word, Variants.choosing_at, Variants.nothing_listed}
use Rattle.denoter_checker.specs.Denoters.{arm_at, arm_chosen, arms_at, array_denoter, choosing_of, denoter, field_place, fields_at, fixed_at, joins}
use Rattle.denoter_checker.specs.Denoters.{more_choices, more_sections, open_record, other_indexes, part_at, put_record, scope_inside, section, structure}
use Rattle.denoter_checker.specs.declared.variants.{Choosing.Choosing, Listed.Listed, PartPlace.PartPlace}
use Rattle.rule_laws.proofs.{Every.Every, Every.Of, LeavesConstants.constant-leaves, LeavesDefines.define_record-leaves, LeavesNameLists.each_name-leaves}
use Rattle.rule_laws.proofs.{LeavesPlaces.first_of_denoter-in, LeavesPlaces.fixed_end, TokenPlaces.tag_name-in}
use Rattle.rule_laws.proofs.Leaves.{Leaves, bind-leaves, give-leaves, look-leaves, open_region-leaves, put-leaves}
use Rattle.rule_laws.proofs.LeavesArrays.{array-leaves, joined-leaves, put_index-leaves}
use Rattle.rule_laws.proofs.LeavesTypes.{enumeration-leaves, named_type-leaves, ordinal-leaves, pointer_type-leaves, set_type-leaves, subrange-leaves}
use Rattle.rule_laws.proofs.LeavesVariants.{arm_choices-leaves, tag_part-leaves, variant_part-leaves}

pub open_record-leaves : {Q : ℕ → Type 0} (frame : ℕ) (word : ℕ) → Leaves Q (open_record frame word)
unfolding open_record
open_record-leaves frame word = bind-leaves (look-leaves (λ k. (frame_at k frame).level)) (λ level. open_region-leaves word (Some frame) level)

pub field_place-leaves : {Q : ℕ → Type 0} (holder : ℕ) (t : ℕ) (offset : ℕ) (token : ℕ) → Of Q token → Leaves Q (field_place holder t offset token)
unfolding field_place
field_place-leaves holder t offset token token-in = bind-leaves (put-leaves token (Row.Name (NameRow.Field t offset holder)) token-in)
    (λ _. bind-leaves (look-leaves
    (λ k. size_of k.program t)) (λ cells. give-leaves (capped (offset + cells))))

pub put_record-leaves : {Q : ℕ → Type 0} (packed : Bool) (word : ℕ) (frame : ℕ) (cells : ℕ) (variants : Option ℕ) → Of Q word
    → Leaves Q (put_record packed word frame cells variants)
unfolding put_record
put_record-leaves packed word frame cells variants word-in = bind-leaves (look-leaves (λ k. (frame_at k frame).region)) (λ region.
    bind-leaves (put-leaves word (Row.Type (TypeRow.Record packed region cells variants)) word-in) (λ _. give-leaves word))

pub arm_chosen-leaves : {Q : ℕ → Type 0} (c : Choosing) (l : Listed) (slot : ℕ) (arm : ArmTree) → Of Q c.list → Of Q slot → Every Q (arm_node arm)
    → Leaves Q (arm_chosen c l slot arm)
arm_chosen-leaves c l slot (tree.an_arm constants colon open' fields close) list-in slot-in arm-in =
    arm_choices-leaves c l slot open' constants list-in slot-in arm-in.1.1.0 arm-in.0

pub more_choices-leaves : {Q : ℕ → Type 0} (c : Choosing) (l : Listed) (rest : ArmTrees) (end : Node) → Of Q c.list → Every Q (arms_node rest end)
    → Leaves Q (more_choices c l rest)
more_choices-leaves c l tree.end_of_arms end list-in rest-in = give-leaves l
more_choices-leaves c l (tree.more_arms semicolon arm rest) end list-in rest-in =
    bind-leaves (arm_chosen-leaves c l semicolon arm list-in rest-in.0 rest-in.1.0) (λ next. more_choices-leaves c next rest end list-in rest-in.1.1)

pub choosing_of-leaves : {Q : ℕ → Type 0} (p : PartPlace) (tag : Tag) (of_word : ℕ) (first : ArmTree) (others : ArmTrees) (end : Node) → Of Q of_word
    → Every Q (tag_node tag) → Every Q (arm_node first) → Every Q (arms_node others end)
    → Leaves Q (choosing_of p tag of_word first others)
unfolding choosing_of
choosing_of-leaves {Q = Q} p tag of_word first others end of-in tag-in first-in others-in =
    bind-leaves (tag_part-leaves p tag.field tag.name tag.name tag-in (tag_name-in Q tag.field tag.name tag-in)) (λ host.
    bind-leaves (arm_chosen-leaves (choosing_at p host of_word) (nothing_listed p.word) of_word first of-in of-in first-in) (λ one.
    more_choices-leaves (choosing_at p host of_word) one others end of-in others-in))

pub joins-leaves : {Q : ℕ → Type 0} (packed : Bool) (t : ℕ) (next_denoter : DenoterTrees) → Every Q (denoters_node next_denoter)
    → Leaves Q (joins packed t next_denoter)
joins-leaves packed t tree.end_of_denoters next_denoter-in = give-leaves t
joins-leaves packed t (tree.more_denoters comma d rest) next_denoter-in = bind-leaves (joins-leaves packed t rest next_denoter-in.1) (λ inner.
    joined-leaves packed inner comma next_denoter-in.0.0)

mutual
  pub denoter-leaves : {Q : ℕ → Type 0} (s : Scope) (denoter' : DenoterTree) → Every Q (denoter_node denoter') → Leaves Q (denoter s denoter')
  denoter-leaves s (tree.a_type_name token) denoter-in = named_type-leaves s.frame token denoter-in.0
  denoter-leaves s (tree.an_enumeration e) denoter-in = enumeration-leaves e denoter-in
  denoter-leaves s (tree.a_subrange first dots last) denoter-in = bind-leaves (constant-leaves s.frame first denoter-in.0) (λ a.
      bind-leaves (constant-leaves s.frame last denoter-in.1.1) (λ b. subrange-leaves a dots b denoter-in.1.0))
  denoter-leaves s (tree.a_pointer caret name) denoter-in = pointer_type-leaves s caret name denoter-in.0 denoter-in.1
  denoter-leaves s (tree.a_structure packed x) denoter-in = structure-leaves s (is_some packed) x denoter-in.1

  pub structure-leaves : {Q : ℕ → Type 0} (s : Scope) (packed : Bool) (structure' : StructureTree) → Every Q (structure_node structure')
      → Leaves Q (structure s packed structure')
  structure-leaves s packed (tree.an_array a) structure-in = array_denoter-leaves s packed a structure-in
  structure-leaves s packed (tree.a_record word fields end) structure-in = bind-leaves (open_record-leaves s.frame word) (λ frame.
      bind-leaves (define_record-leaves frame fields structure-in.1.0)
      (λ _. bind-leaves (fields_at-leaves (scope_inside s frame) word 0 fields structure-in.1.0)
      (λ cells. put_record-leaves packed word frame cells (variants_word fields) structure-in.0)))
  structure-leaves s packed (tree.a_set_type word of base) structure-in = bind-leaves (denoter-leaves s base structure-in.1.1) (λ written.
      set_type-leaves packed word (first_of_denoter base) of written structure-in.0 (first_of_denoter-in base structure-in.1.1))

  pub array_denoter-leaves : {Q : ℕ → Type 0} (s : Scope) (packed : Bool) (array_denoter' : ArrayTree) → Every Q (array_node array_denoter')
      → Leaves Q (array_denoter s packed array_denoter')
  array_denoter-leaves s packed (tree.index_types word open' first others close of component) array_denoter-in =
      bind-leaves (denoter-leaves s first array_denoter-in.1.1.0) (λ written.
      bind-leaves (ordinal-leaves (first_of_denoter first) word written (first_of_denoter-in first array_denoter-in.1.1.0)) (λ index.
      bind-leaves (other_indexes-leaves s word others array_denoter-in.1.1.1.0)
      (λ _. bind-leaves (denoter-leaves s component array_denoter-in.1.1.1.1.1.1) (λ t.
      bind-leaves (joins-leaves packed t others array_denoter-in.1.1.1.0) (λ inner. array-leaves packed open' index inner array_denoter-in.1.0)))))

  pub other_indexes-leaves : {Q : ℕ → Type 0} (s : Scope) (word : ℕ) (next_denoter : DenoterTrees) → Every Q (denoters_node next_denoter)
      → Leaves Q (other_indexes s word next_denoter)
  other_indexes-leaves s word tree.end_of_denoters next_denoter-in = give-leaves tt
  other_indexes-leaves s word (tree.more_denoters comma d rest) next_denoter-in =
      bind-leaves (bind-leaves (denoter-leaves s d next_denoter-in.0.1) (λ written.
      bind-leaves (ordinal-leaves (first_of_denoter d) word written (first_of_denoter-in d next_denoter-in.0.1))
      (λ index. put_index-leaves comma index next_denoter-in.0.0)))
      (λ _. other_indexes-leaves s word rest next_denoter-in.1)

  pub fields_at-leaves : {Q : ℕ → Type 0} (s : Scope) (holder : ℕ) (offset : ℕ) (fields : FieldsTree) → Every Q (fields_node fields)
      → Leaves Q (fields_at s holder offset fields)
  fields_at-leaves s holder offset tree.without_fields fields-in = give-leaves offset
  fields_at-leaves {Q = Q} s holder offset (tree.fixed_fields fixed part last) fields-in =
      bind-leaves (fixed_at-leaves s holder offset fixed (next_variants_node part last) fields-in) (λ next.
      variants_after-leaves s holder next part last (fixed_end Q fixed (next_variants_node part last) fields-in))
  fields_at-leaves s holder offset (tree.variant_fields variants last) fields-in = variants_at-leaves s holder offset variants last fields-in

  pub fixed_at-leaves : {Q : ℕ → Type 0} (s : Scope) (holder : ℕ) (offset : ℕ) (fixed : FixedTree) (end : Node) → Every Q (fixed_node fixed end)
      → Leaves Q (fixed_at s holder offset fixed)
  fixed_at-leaves s holder offset (tree.fixed_part first others) end fixed-in =
      bind-leaves (section-leaves s holder offset first fixed-in.0) (λ next. more_sections-leaves s holder next others end fixed-in.1)

  pub section-leaves : {Q : ℕ → Type 0} (s : Scope) (holder : ℕ) (offset : ℕ) (x : SectionTree) → Every Q (section_node x)
      → Leaves Q (section s holder offset x)
  section-leaves s holder offset (tree.a_section names colon d) x-in = bind-leaves (denoter-leaves s d x-in.1.1) (λ t.
      each_name-leaves (field_place holder t) offset names (λ a x h. field_place-leaves holder t a x h) x-in.0)

  pub more_sections-leaves : {Q : ℕ → Type 0} (s : Scope) (holder : ℕ) (offset : ℕ) (rest : SectionTrees) (end : Node) → Every Q (sections_node rest end)
      → Leaves Q (more_sections s holder offset rest)
  more_sections-leaves s holder offset tree.end_of_sections end rest-in = give-leaves offset
  more_sections-leaves s holder offset (tree.more_sections semicolon x rest) end rest-in =
      bind-leaves (section-leaves s holder offset x rest-in.1.0) (λ next. more_sections-leaves s holder next rest end rest-in.1.1)

  pub variants_after-leaves : {Q : ℕ → Type 0} (s : Scope) (holder : ℕ) (offset : ℕ) (x : PartTree) (last : Option ℕ) → Every Q (next_variants_node x last)
      → Leaves Q (variants_after s holder offset x)
  variants_after-leaves s holder offset tree.without_part last x-in = give-leaves offset
  variants_after-leaves s holder offset (tree.a_part semicolon variants) last x-in = variants_at-leaves s holder offset variants last x-in.1

  pub variants_at-leaves : {Q : ℕ → Type 0} (s : Scope) (holder : ℕ) (offset : ℕ) (variants : VariantsTree) (last : Option ℕ)
      → Every Q (variants_node variants last) → Leaves Q (variants_at s holder offset variants)
  variants_at-leaves s holder offset (tree.arms word tag of_word first others) last variants-in =
      bind-leaves (choosing_of-leaves (part_at s word holder offset) tag of_word first others (last_semicolon_node last) variants-in.1.1.0 variants-in.1.0
      variants-in.1.1.1.0
      variants-in.1.1.1.1) (λ _. bind-leaves (arm_at-leaves s (capped (offset + 1)) first variants-in.1.1.1.0) (λ next.
      bind-leaves (arms_at-leaves s next others (last_semicolon_node last) variants-in.1.1.1.1) (λ end.
      variant_part-leaves (part_at s word holder offset) (is_none tag.field) of_word end variants-in.0)))

  pub arm_at-leaves : {Q : ℕ → Type 0} (s : Scope) (offset : ℕ) (arm : ArmTree) → Every Q (arm_node arm) → Leaves Q (arm_at s offset arm)
  arm_at-leaves s offset (tree.an_arm constants colon open' fields close) arm-in = fields_at-leaves s open' offset fields arm-in.1.1.1.0

  pub arms_at-leaves : {Q : ℕ → Type 0} (s : Scope) (offset : ℕ) (rest : ArmTrees) (end : Node) → Every Q (arms_node rest end)
      → Leaves Q (arms_at s offset rest)
  arms_at-leaves s offset tree.end_of_arms end rest-in = give-leaves offset
  arms_at-leaves s offset (tree.more_arms semicolon arm rest) end rest-in =
      bind-leaves (arm_at-leaves s offset arm rest-in.1.0) (λ next. arms_at-leaves s next rest end rest-in.1.1)
