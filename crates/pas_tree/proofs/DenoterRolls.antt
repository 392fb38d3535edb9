-- The nodes of type denoters that hold a vector.
use Rattle.std.proofs.Common.{◌≡◌, ℕ, Global, Option, Vec, map, refl}
use denote.Hole.Carrier.{roll}
use Rattle.grammar.specs.Nodes.{Node, Pair, chain, leaf, row}
use Rattle.grammar.specs.declared.terminals.Terminal.TheVariants as k
use Rattle.pas_tree.specs.Denoters as node
use Rattle.pas_tree.specs.declared.denoters.{Arm.Arm, ArrayDenoter.roll-ArrayDenoter, Denoter.Denoter, Fixed.roll-Fixed, NextArm.NextArm}
use Rattle.pas_tree.specs.declared.denoters.{NextDenoter.NextDenoter, NextSection.NextSection, Section.Section, Tag.Tag, Variants.roll-Variants}
use Rattle.pas_tree.specs.declared.denoters.Denoter.TheBlock as b

denoters_row : (n : _) (r : b.Row_of-NextDenoter n) → node.denoters_node r ≡ row (map node.next_denoter_node (b.items-the_row-NextDenoter n r))
denoters_row _ b.end_of-NextDenoter = refl
denoters_row _ (b.more_of-NextDenoter comma denoter rest) = rw (denoters_row _ rest)

sections_row : (n : _) (r : b.Row_of-NextSection n) (end : Node)
    → node.sections_node r end ≡ chain (map node.section_step (b.items-the_row-NextSection n r)) end
sections_row _ b.end_of-NextSection end = refl
sections_row _ (b.more_of-NextSection semicolon names colon denoter rest) end = rw (sections_row _ rest end)

arms_row : (n : _) (r : b.Row_of-NextArm n) (end : Node) → node.arms_node r end ≡ chain (map node.arm_step (b.items-the_row-NextArm n r)) end
arms_row _ b.end_of-NextArm end = refl
arms_row _ (b.more_of-NextArm semicolon constants colon open' fields close rest) end = rw (arms_row _ rest end)

pub array_rolled : (word open' : ℕ) (first : Denoter) (others : Vec NextDenoter Global) (close of : ℕ) (component : Denoter)
    → node.array_node (roll-ArrayDenoter (record {
      word = word;
      «open» = open';
      first = first;
      others = others;
      close = close;
      of = of;
      component = component;
    }))
    ≡ Pair (leaf k.WArray word) (Pair (leaf k.LeftBracket open') (Pair (node.denoter_node first) (Pair (row (map node.next_denoter_node others.items))
    (Pair (leaf k.RightBracket close) (Pair (leaf k.WOf of) (node.denoter_node component))))))
unfolding roll-ArrayDenoter roll
array_rolled word open' first others close of component = rw (denoters_row _ (b.hidden-the_row-NextDenoter-0 others), b.items_hidden-the_row-NextDenoter-0)

pub fixed_rolled : (first : Section) (others : Vec NextSection Global) (end : Node)
    → node.fixed_node (roll-Fixed (record { first = first; others = others })) end ≡ Pair (node.section_node first)
    (chain (map node.section_step others.items) end)
unfolding roll-Fixed roll
fixed_rolled first others end = rw (sections_row _ (b.hidden-the_row-NextSection-1 others), b.items_hidden-the_row-NextSection-1)

pub variants_rolled : (word : ℕ) (tag : Tag) (of : ℕ) (first : Arm) (others : Vec NextArm Global) (last : Option ℕ)
    → node.variants_node (roll-Variants (record { word = word; tag = tag; of = of; first = first; others = others })) last
    ≡ Pair (leaf k.WCase word) (Pair (node.tag_node tag) (Pair (leaf k.WOf of)
    (Pair (node.arm_node first) (chain (map node.arm_step others.items) (node.last_semicolon_node last)))))
unfolding roll-Variants roll
variants_rolled word tag of first others last = rw (arms_row _ (b.hidden-the_row-NextArm-2 others), b.items_hidden-the_row-NextArm-2)
