-- The nodes of type denoters are those of their trees without memory.
use Rattle.std.proofs.Common.{◌≡◌, ℕ, Option, refl}
use Rattle.grammar.specs.Nodes.{Node, Pair, leaf}
use Rattle.grammar.specs.declared.terminals.Terminal.TheVariants as k
use Rattle.pas_tree.specs.{ConstantTrees.constants_tree, ConstantTrees.names_tree, Operators.token_node}
use Rattle.pas_tree.specs.Constants as constants
use Rattle.pas_tree.specs.DenoterTrees as tree_denoters
use Rattle.pas_tree.specs.Denoters as denoters
use Rattle.pas_tree.specs.TreeNodes as node
use Rattle.pas_tree.specs.declared.constants.{Constants.Constants, Names.Names}
use Rattle.pas_tree.specs.declared.denoters.{Enumeration.Enumeration as EnumerationOf, NextVariants.NextVariants'}
use Rattle.pas_tree.specs.declared.denoters.ArrayDenoter.{ArrayDenoter, ArrayDenoter', Row_of-NextDenoter, end_of-NextDenoter, more_of-NextDenoter}
use Rattle.pas_tree.specs.declared.denoters.Denoter.{Denoter, Enumeration, Name, Pointer, Structure', Subrange}
use Rattle.pas_tree.specs.declared.denoters.Fields.{Empty, Fields, Fixed', Held-Fields-Fixed-1, None', Some', Variants' as FieldsVariants'}
use Rattle.pas_tree.specs.declared.denoters.Fixed.{Fixed as FixedTree, Fixed' as FixedTree', Row_of-NextSection, end_of-NextSection, more_of-NextSection}
use Rattle.pas_tree.specs.declared.denoters.Structure.{Array, Record', Set', Structure}
use Rattle.pas_tree.specs.declared.denoters.Variants.{Row_of-NextArm, Variants as VariantsTree, Variants', end_of-NextArm, more_of-NextArm}

pub names_same : (x : Names) → constants.names_node x ≡ node.names_node (names_tree x)
names_same x = refl

pub constants_same : (x : Constants) → constants.constants_node x ≡ node.constants_node (constants_tree x)
constants_same x = refl

enumeration_same : (x : EnumerationOf) → denoters.enumeration_node x ≡ node.enumeration_node (tree_denoters.enumeration_tree x)
enumeration_same x = refl

mutual
  pub denoter_same : (x : Denoter) → denoters.denoter_node x ≡ node.denoter_node (tree_denoters.denoter_tree x)
  denoter_same (Name n) = refl
  denoter_same (Enumeration e) = enumeration_same e
  denoter_same (Subrange first range last) = refl
  denoter_same (Pointer caret name) = refl
  denoter_same (Structure' packed _ s) =
      λ i. Pair (token_node k.WPacked packed) (structure_same s i)

  structure_same : (x : Structure) → denoters.structure_node x ≡ node.structure_node (tree_denoters.structure_tree x)
  structure_same (Array a) = array_same a
  structure_same (Record' word fields end) =
      λ i. Pair (leaf k.WRecord word) (Pair (fields_same fields i) (leaf k.WEnd end))
  structure_same (Set' word of base) =
      λ i. Pair (leaf k.WSet word) (Pair (leaf k.WOf of) (denoter_same base i))

  array_same : (x : ArrayDenoter) → denoters.array_node x ≡ node.array_node (tree_denoters.array_tree x)
  array_same (ArrayDenoter' word open' first _ others close of component) =
      λ i. Pair (leaf k.WArray word) (Pair (leaf k.LeftBracket open') (Pair (denoter_same first i) (Pair (denoters_same others i) (Pair
      (leaf k.RightBracket close) (Pair (leaf k.WOf of) (denoter_same component i))))))

  denoters_same : {m : _} (x : Row_of-NextDenoter m) → denoters.denoters_node x ≡ node.denoters_node (tree_denoters.denoter_row x)
  denoters_same end_of-NextDenoter = refl
  denoters_same (more_of-NextDenoter comma denoter rest) =
      λ i. Pair (Pair (leaf k.Comma comma) (denoter_same denoter i)) (denoters_same rest i)

  fields_same : (x : Fields) → denoters.fields_node x ≡ node.fields_node (tree_denoters.fields_tree x)
  fields_same Empty = refl
  fields_same (Fixed' fixed variants last) =
      fixed_same fixed (denoters.next_variants_node variants last) (node.next_variants_node (tree_denoters.part_tree variants) last)
      (next_variants_same variants last)
  fields_same (FieldsVariants' _ variants last) = variants_same variants last

  fixed_same : (x : FixedTree) (y z : Node) → y ≡ z → denoters.fixed_node x y ≡ node.fixed_node (tree_denoters.fixed_tree x) z
  fixed_same (FixedTree' names colon denoter _ others) y z e =
      λ i. Pair (Pair (names_same names i) (Pair (leaf k.Colon colon) (denoter_same denoter i))) (sections_same others y z e i)

  sections_same : {m : _} (x : Row_of-NextSection m) (y z : Node) → y ≡ z → denoters.sections_node x y ≡ node.sections_node (tree_denoters.section_row x) z
  sections_same end_of-NextSection y z e = e
  sections_same (more_of-NextSection semicolon names colon denoter rest) y z e =
      λ i. Pair (leaf k.Semicolon semicolon) (Pair (Pair (names_same names i) (Pair (leaf k.Colon colon) (denoter_same denoter i)))
      (sections_same rest y z e i))

  next_variants_same : (x : Held-Fields-Fixed-1) (last : Option ℕ) → denoters.next_variants_node x last ≡ node.next_variants_node
      (tree_denoters.part_tree x) last
  next_variants_same None' last = refl
  next_variants_same (Some' (NextVariants' semicolon _ variants)) last =
      λ i. Pair (leaf k.Semicolon semicolon) (variants_same variants last i)

  variants_same : (x : VariantsTree) (last : Option ℕ) → denoters.variants_node x last ≡ node.variants_node (tree_denoters.variants_tree x) last
  variants_same (Variants' word tag of constants colon open' fields close _ others) last =
      λ i. Pair (leaf k.WCase word) (Pair (denoters.tag_node tag) (Pair (leaf k.WOf of)
      (Pair (Pair (constants_same constants i) (Pair (leaf k.Colon colon) (Pair
      (leaf k.LeftParen open') (Pair (fields_same fields i) (leaf k.RightParen close))))) (arms_same others (denoters.last_semicolon_node last)
      (denoters.last_semicolon_node last) refl i))))

  arms_same : {m : _} (x : Row_of-NextArm m) (y z : Node) → y ≡ z → denoters.arms_node x y ≡ node.arms_node (tree_denoters.arm_row x) z
  arms_same end_of-NextArm y z e = e
  arms_same (more_of-NextArm semicolon constants colon open' fields close rest) y z e =
      λ i. Pair (leaf k.Semicolon semicolon) (Pair (Pair (constants_same constants i) (Pair (leaf k.Colon colon) (Pair (leaf k.LeftParen open') (Pair
      (fields_same fields i) (leaf k.RightParen close))))) (arms_same rest y z e i))
