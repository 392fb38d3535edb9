-- Every type denoter's node fits its rule.
use Rattle.std.proofs.Common.{◌∷◌, [], ℕ, None, Option, Some, refl}
use Rattle.grammar.specs.{Nodes.Node, Nodes.Pair, Nodes.leaf, declared.terminals.Terminal.Terminal}
use Rattle.grammar.specs.Grammars.{Grammar, many, nothing, series, word}
use Rattle.pas_tree.proofs.ConstantsFit.{constant_fits, constants_fits, names_fits}
use Rattle.pas_tree.proofs.Fits.{Fits, absent, cons, deeper, empty, left, nil, one, pair, right, series_last, series_more, series_none, sign_leaf_fits}
use Rattle.pas_tree.specs.{Constants.constant_node, Operators.token_node, declared.constants.Constant.Constant}
use Rattle.pas_tree.specs.Denoters as node
use Rattle.pas_tree.specs.Rules as r
use Rattle.pas_tree.specs.declared.denoters.{Enumeration.Enumeration as EnumerationTree, NextVariants.NextVariants', TagField.TagField}
use Rattle.pas_tree.specs.declared.denoters.ArrayDenoter.{ArrayDenoter, ArrayDenoter', Row_of-NextDenoter, end_of-NextDenoter, more_of-NextDenoter}
use Rattle.pas_tree.specs.declared.denoters.Denoter.{Denoter, Enumeration, Name, Pointer, Structure', Subrange}
use Rattle.pas_tree.specs.declared.denoters.Fields.{Empty, Fields, Fixed', Held-Fields-Fixed-1, None', Some', Variants' as FieldsVariants'}
use Rattle.pas_tree.specs.declared.denoters.Fixed.{Fixed as FixedTree, Fixed' as FixedTree', Row_of-NextSection, end_of-NextSection, more_of-NextSection}
use Rattle.pas_tree.specs.declared.denoters.Structure.{Array, Record', Set', Structure}
use Rattle.pas_tree.specs.declared.denoters.Variants.{Row_of-NextArm, Variants as VariantsTree, Variants', end_of-NextArm, more_of-NextArm}

enumeration_fits : (e : EnumerationTree) → Fits r.enumeration_rule (node.enumeration_node e)
unfolding r.enumeration_rule
enumeration_fits e = pair (one refl) (pair (names_fits e.names) (one refl))

-- a subrange that begins with a name alone is read with the names
subrange_fits : (c : Constant) (x : Node) → Fits r.range_rule x → Fits r.denoter_rule (Pair (constant_node c) x)
unfolding r.denoter_rule r.named_denoter_rule r.subrange_rule r.limit_rule
subrange_fits (Constant.Number None n) x f = right (right (left (pair (right (right (one refl))) f)))
subrange_fits (Constant.Number (Some s) n) x f = right (right (left (pair (right (left (pair (sign_leaf_fits s) (one refl)))) f)))
subrange_fits (Constant.Name None n) x f = left (pair (one refl) (left f))
subrange_fits (Constant.Name (Some s) n) x f = right (right (left (pair (right (left (pair (sign_leaf_fits s) (one refl)))) f)))
subrange_fits (Constant.Text n) x f = right (right (left (pair (left (one refl)) f)))

range_fits : (range : ℕ) (c : Constant) → Fits r.range_rule (Pair (leaf Terminal.Range range) (constant_node c))
unfolding r.range_rule
range_fits range c = pair (one refl) (constant_fits c)

tag_fits : (t : Option TagField) (n : ℕ) → Fits r.tag_rule (node.tag_rest_node t n)
unfolding r.tag_rule
tag_fits None n = pair (one refl) absent
tag_fits (Some f) n = pair (one refl) (left (pair (one refl) (one refl)))

packed_fits : (p : Option ℕ) → Fits (r.optional (Terminal.WPacked ∷ []) (word Terminal.WPacked)) (token_node Terminal.WPacked p)
packed_fits None = absent
packed_fits (Some n) = left (one refl)

abbrev sections : Grammar
sections = series Terminal.Semicolon (Terminal.Name ∷ []) r.section_rule r.variants_rule

abbrev arms : Grammar
arms = series Terminal.Semicolon r.constant_starts r.arm_rule nothing

last_arm_fits : (n : Option ℕ) → Fits arms (node.last_semicolon_node n)
last_arm_fits None = series_none
last_arm_fits (Some n) = series_last (one refl) empty

mutual
  unfolding r.denoter_rule r.named_denoter_rule r.structured_rule r.structure_rule r.record_rule r.set_rule r.array_rule r.next_denoter_rule r.fields_rule
      r.variants_rule r.fixed_rule r.section_rule r.variant_part_rule r.arm_rule

  pub denoter_fits : (d : Denoter) → Fits r.denoter_rule (node.denoter_node d)
  denoter_fits (Name n) = left (pair (one refl) absent)
  denoter_fits (Enumeration e) = right (left (enumeration_fits e))
  denoter_fits (Subrange first range last) = subrange_fits first (Pair (leaf Terminal.Range range) (constant_node last)) (range_fits range last)
  denoter_fits (Pointer caret name) = right (right (right (left (pair (one refl) (one refl)))))
  denoter_fits (Structure' packed _ s) = right (right (right (right (pair (packed_fits packed) (structure_fits s)))))

  structure_fits : (s : Structure) → Fits r.structure_rule (node.structure_node s)
  structure_fits (Array a) = left (array_fits a)
  structure_fits (Record' word fields end) = right (left (pair (one refl) (pair (fields_fits fields) (one refl))))
  structure_fits (Set' word of base) = right (right (pair (one refl) (pair (one refl) (deeper (denoter_fits base)))))

  array_fits : (a : ArrayDenoter) → Fits r.array_rule (node.array_node a)
  array_fits (ArrayDenoter' word open' first _ others close of component) =
      pair (one refl) (pair (one refl) (pair (deeper (denoter_fits first)) (pair (denoters_fits others)
      (pair (one refl) (pair (one refl) (deeper (denoter_fits component)))))))

  denoters_fits : {m : _} (t : Row_of-NextDenoter m) → Fits (many (Terminal.Comma ∷ []) r.next_denoter_rule) (node.denoters_node t)
  denoters_fits end_of-NextDenoter = nil
  denoters_fits (more_of-NextDenoter comma d rest) = cons (pair (one refl) (deeper (denoter_fits d))) (denoters_fits rest)

  fields_fits : (f : Fields) → Fits r.fields_rule (node.fields_node f)
  fields_fits Empty = right absent
  fields_fits (Fixed' fixed variants last) = left (fixed_fits fixed (node.next_variants_node variants last) (next_variants_fits variants last))
  fields_fits (FieldsVariants' _ variants last) = right (left (deeper (variants_fits variants last)))

  fixed_fits : (f : FixedTree) (end : Node) → Fits sections end → Fits r.fixed_rule (node.fixed_node f end)
  fixed_fits (FixedTree' names colon d _ others) end e =
      pair (pair (names_fits names) (pair (one refl) (deeper (denoter_fits d)))) (sections_fits others end e)

  sections_fits : {m : _} (t : Row_of-NextSection m) (end : Node) → Fits sections end → Fits sections (node.sections_node t end)
  sections_fits end_of-NextSection end e = e
  sections_fits (more_of-NextSection semicolon names colon d rest) end e =
      series_more (one refl) (pair (names_fits names) (pair (one refl) (deeper (denoter_fits d)))) (sections_fits rest end e)

  next_variants_fits : (v : Held-Fields-Fixed-1) (last : Option ℕ) → Fits sections (node.next_variants_node v last)
  next_variants_fits None' None = series_none
  next_variants_fits None' (Some n) = series_last (one refl) absent
  next_variants_fits (Some' (NextVariants' semicolon _ variants)) last = series_last (one refl) (left (deeper (variants_fits variants last)))

  variants_fits : (v : VariantsTree) (last : Option ℕ) → Fits r.variant_part_rule (node.variants_node v last)
  variants_fits (Variants' word tag of constants colon open' fields close _ others) last =
      pair (one refl) (pair (tag_fits tag.field tag.name) (pair (one refl)
      (pair (pair (constants_fits constants) (pair (one refl) (pair (one refl) (pair (fields_fits fields) (one refl))))) (arms_fits others last))))

  arms_fits : {m : _} (t : Row_of-NextArm m) (last : Option ℕ) → Fits arms (node.arms_node t (node.last_semicolon_node last))
  arms_fits end_of-NextArm last = last_arm_fits last
  arms_fits (more_of-NextArm semicolon constants colon open' fields close rest) last =
      series_more (one refl) (pair (constants_fits constants) (pair (one refl) (pair (one refl) (pair (fields_fits fields) (one refl)))))
      (arms_fits rest last)
