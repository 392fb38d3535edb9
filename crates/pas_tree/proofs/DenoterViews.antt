-- The trees of type denoters by the fields of what the code holds.
use Rattle.std.proofs.Common.{◌∙◌, ◌≡◌, ℕ, None, Option, Some, ap, refl}
use denote.Hole.Carrier.{roll}
use Rattle.pas_tree.specs.DenoterTrees as tree
use Rattle.pas_tree.specs.declared.denoters.{Fields.Some', Fields.roll-Fields, NextVariants.NextVariants, NextVariants.is-NextVariants'}
use Rattle.pas_tree.specs.declared.denoters.ArrayDenoter.{ArrayDenoter, Row_of-NextDenoter, end_of-NextDenoter, is-ArrayDenoter', items-the_row-NextDenoter}
use Rattle.pas_tree.specs.declared.denoters.ArrayDenoter.{items_hidden-the_row-NextDenoter-0, more_of-NextDenoter, out-ArrayDenoter}
use Rattle.pas_tree.specs.declared.denoters.Denoter.TheBlock.{hidden-the_row-NextArm-2, hidden-the_row-NextDenoter-0, hidden-the_row-NextSection-1}
use Rattle.pas_tree.specs.declared.denoters.Fields.TheVariants as made
use Rattle.pas_tree.specs.declared.denoters.Fixed.{Fixed, Row_of-NextSection, end_of-NextSection, is-Fixed', items-the_row-NextSection}
use Rattle.pas_tree.specs.declared.denoters.Fixed.{items_hidden-the_row-NextSection-1, more_of-NextSection, out-Fixed}
use Rattle.pas_tree.specs.declared.denoters.Variants.{Row_of-NextArm, Variants, end_of-NextArm, is-Variants', items-the_row-NextArm}
use Rattle.pas_tree.specs.declared.denoters.Variants.{items_hidden-the_row-NextArm-2, more_of-NextArm, out-Variants}

denoter_rows : (n : _) (r : Row_of-NextDenoter n) → tree.denoter_row r ≡ tree.denoter_trees (items-the_row-NextDenoter n r)
denoter_rows _ end_of-NextDenoter = refl
denoter_rows _ (more_of-NextDenoter comma d rest) = ap (tree.more_denoters comma (tree.denoter_tree d)) (denoter_rows _ rest)

pub array_view : (a : ArrayDenoter) → tree.array_tree a
    ≡ tree.index_types (out-ArrayDenoter a).word (out-ArrayDenoter a).«open» (tree.denoter_tree (out-ArrayDenoter a).first)
    (tree.denoter_trees (out-ArrayDenoter a).others.items) (out-ArrayDenoter a).close (out-ArrayDenoter a).«of»
    (tree.denoter_tree (out-ArrayDenoter a).component)
array_view a =
    let o = out-ArrayDenoter a in
    ap tree.array_tree (is-ArrayDenoter' a)
    ∙ ap (λ xs. tree.index_types o.word o.«open» (tree.denoter_tree o.first) xs o.close o.«of» (tree.denoter_tree o.component))
    (denoter_rows _ (hidden-the_row-NextDenoter-0 o.others)
    ∙ ap tree.denoter_trees (items_hidden-the_row-NextDenoter-0 o.others))

section_rows : (n : _) (r : Row_of-NextSection n) → tree.section_row r ≡ tree.section_trees (items-the_row-NextSection n r)
section_rows _ end_of-NextSection = refl
section_rows _ (more_of-NextSection semicolon names colon d rest) =
    ap (tree.more_sections semicolon (tree.section_tree (record { names = names; colon = colon; denoter = d }))) (section_rows _ rest)

pub fixed_view : (f : Fixed) → tree.fixed_tree f ≡ tree.fixed_part (tree.section_tree (out-Fixed f).first) (tree.section_trees (out-Fixed f).others.items)
fixed_view f =
    let o = out-Fixed f in
    ap tree.fixed_tree (is-Fixed' f)
    ∙ ap (tree.fixed_part (tree.section_tree o.first)) (section_rows _ (hidden-the_row-NextSection-1 o.others)
    ∙ ap tree.section_trees (items_hidden-the_row-NextSection-1 o.others))

arm_rows : (n : _) (r : Row_of-NextArm n) → tree.arm_row r ≡ tree.arm_trees (items-the_row-NextArm n r)
arm_rows _ end_of-NextArm = refl
arm_rows _ (more_of-NextArm semicolon constants colon open' fields close rest) =
    ap (tree.more_arms semicolon (tree.arm_tree (record {
      constants = constants;
      colon = colon;
      «open» = open';
      fields = fields;
      close = close;
    }))) (arm_rows _ rest)

pub variants_view : (v : Variants) → tree.variants_tree v
    ≡ tree.arms (out-Variants v).word (out-Variants v).tag (out-Variants v).«of» (tree.arm_tree (out-Variants v).first)
    (tree.arm_trees (out-Variants v).others.items)
variants_view v =
    let o = out-Variants v in
    ap tree.variants_tree (is-Variants' v)
    ∙ ap (tree.arms o.word o.tag o.«of» (tree.arm_tree o.first)) (arm_rows _ (hidden-the_row-NextArm-2 o.others)
    ∙ ap tree.arm_trees (items_hidden-the_row-NextArm-2 o.others))

pub fields_view : (f : Fixed) (v : Option NextVariants) (last : Option ℕ)
    → tree.fields_tree (made.Fixed f v last) ≡ tree.fixed_fields (tree.fixed_tree f) (tree.part_in v) last
unfolding roll-Fields roll
fields_view f None last = refl
fields_view f (Some n) last = ap (λ m. tree.fixed_fields (tree.fixed_tree f) (tree.part_tree (Some' m)) last) (is-NextVariants' n)
