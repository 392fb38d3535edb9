-- Each node of a type denoter is that of a typed tree.
use Rattle.std.proofs.Common.{◌∙◌, ◌∷◌, ◌≡◌, [], ℕ, Global, List, None, Option, Some, Vec, ap, map, refl}
use Rattle.grammar.specs.{Nesting.Trees, declared.terminals.Terminal.Terminal}
use Rattle.grammar.specs.Grammars.{Grammar, Level, nothing, seq, series, word}
use Rattle.grammar.specs.Nodes.{Node, Nothing, Pair, SeriesPart, chain, leaf, step_node}
use Rattle.grammar.specs.declared.terminals.Terminal.TheVariants as k
use Rattle.pas_tree.proofs.{Levels.Levels, Levels.ended_variants_node, Memory.boxed, Parts.parts, Repeated.end_node, Repeated.listed, Repeated.stepped}
use Rattle.pas_tree.proofs.ConstantsCovered.{constant_covered, constants_covered, limit_covered, names_covered}
use Rattle.pas_tree.proofs.Covers.{Covers, absent, choose, five, four, made, maybe, maybe_node, one, pair, three}
use Rattle.pas_tree.proofs.DenoterRolls.{array_rolled, fixed_rolled, variants_rolled}
use Rattle.pas_tree.specs.{Constants.constant_node, Operators.token_node, declared.constants.Constant.Constant}
use Rattle.pas_tree.specs.Denoters as node
use Rattle.pas_tree.specs.Rules as r
use Rattle.pas_tree.specs.declared.denoters.{ArrayDenoter.roll-ArrayDenoter, Fixed.Fixed, Fixed.roll-Fixed, NextVariants.NextVariants', Structure.Array}
use Rattle.pas_tree.specs.declared.denoters.{Structure.Record', Structure.Set', Tag.Tag, Variants.Variants, Variants.roll-Variants}
use Rattle.pas_tree.specs.declared.denoters.Denoter.{Denoter, Enumeration, Name, Pointer, Structure', Subrange}
use Rattle.pas_tree.specs.declared.denoters.Fields.{Empty, Fields, Fixed', None', Some', Variants' as FieldsVariants'}

-- ---- a name that stands first

abbrev range_node : ℕ × Constant → Node
range_node p = Pair (leaf k.Range p.0) (constant_node p.1)

abbrev named_denoter : ℕ → Option (ℕ × Constant) → Denoter
named_denoter n None = Name n
named_denoter n (Some p) = Subrange (Constant.Name None n) p.0 p.1

named_denoter_is : (n : ℕ) (p : Option (ℕ × Constant)) → node.denoter_node (named_denoter n p) ≡ Pair (leaf k.Name n) (maybe_node range_node p)
named_denoter_is n None = refl
named_denoter_is n (Some p) = refl

abbrev colon_node : ℕ × ℕ → Node
colon_node p = Pair (leaf k.Colon p.0) (leaf k.Name p.1)

abbrev tag : ℕ → Option (ℕ × ℕ) → Tag
tag n None = record { field = None; name = n }
tag n (Some p) = record { field = Some (record { name = n; colon = p.0 }); name = p.1 }

tag_is : (n : ℕ) (p : Option (ℕ × ℕ)) → node.tag_node (tag n p) ≡ Pair (leaf k.Name n) (maybe_node colon_node p)
tag_is n None = refl
tag_is n (Some p) = refl

-- ---- what ends a series of sections or of arms

abbrev fields_end : Option (ℕ × Option (Variants × Option ℕ)) → Node
fields_end = end_node k.Semicolon (maybe_node ended_variants_node)

abbrev fixed_fields : Fixed → Option (ℕ × Option (Variants × Option ℕ)) → Fields
fixed_fields f None = Fixed' f None' None
fixed_fields f (Some (n, None)) = Fixed' f None' (Some n)
fixed_fields f (Some (n, Some v)) = Fixed' f (Some' (NextVariants' n (boxed tt) v.0)) v.1

fixed_fields_is : (f : Fixed) (end : Option (ℕ × Option (Variants × Option ℕ)))
    → node.fields_node (fixed_fields f end) ≡ node.fixed_node f (fields_end end)
fixed_fields_is f None = refl
fixed_fields_is f (Some (n, None)) = refl
fixed_fields_is f (Some (n, Some v)) = refl

abbrev variant_fields : Option (Variants × Option ℕ) → Fields
variant_fields None = Empty
variant_fields (Some v) = FieldsVariants' (boxed tt) v.0 v.1

variant_fields_is : (v : Option (Variants × Option ℕ)) → node.fields_node (variant_fields v) ≡ maybe_node ended_variants_node v
variant_fields_is None = refl
variant_fields_is (Some v) = refl

abbrev last_semicolon : Option (ℕ × Unit {0}) → Option ℕ
last_semicolon None = None
last_semicolon (Some p) = Some p.0

last_semicolon_is : (end : Option (ℕ × Unit {0})) → node.last_semicolon_node (last_semicolon end) ≡ end_node k.Semicolon (λ _. Nothing) end
last_semicolon_is None = refl
last_semicolon_is (Some p) = refl

module _ {E : Level → Trees} where
  -- a series that a semicolon may end
  pub semicolons : {A : Type 0} {ks : List Terminal} {g : Grammar} (step : A → SeriesPart) → Covers E (seq (word k.Semicolon) g) (λ a. step_node (step a))
      → Covers E (series k.Semicolon ks g nothing) (λ (p : Vec A Global × Option ℕ). chain (map step p.0.items) (node.last_semicolon_node p.1))
  semicolons step part = made (λ (others, end). (others, last_semicolon end)) (λ (others, end). ap (chain (map step others.items)) (last_semicolon_is end))
      (stepped step part (absent tt refl))

module _ {E : Level → Trees} (levels : Levels E) where
  enumeration_covered : Covers E r.enumeration_rule node.enumeration_node
  unfolding r.enumeration_rule
  enumeration_covered = made (λ (open', names, close). record { «open» = open'; names = names; close = close }) (λ _. refl) (three one names_covered one)

  range_covered : Covers E r.range_rule range_node
  unfolding r.range_rule
  range_covered = pair one constant_covered

  -- ---- structured types

  next_denoter_covered : Covers E r.next_denoter_rule node.next_denoter_node
  unfolding r.next_denoter_rule
  next_denoter_covered = made (λ (comma, denoter). record { comma = comma; denoter = denoter }) (λ _. refl) (pair one levels.denoter)

  array_covered : Covers E r.array_rule node.array_node
  unfolding r.array_rule
  array_covered =
      made (λ (word, open', first, rest). roll-ArrayDenoter (record {
        word = word;
        «open» = open';
        first = first;
        others = rest.0;
        close = rest.1;
        of = rest.2;
        component = rest.3;
      }))
      (λ (word, open', first, rest). array_rolled word open' first rest.0 rest.1 rest.2 rest.3)
      (four one one levels.denoter (four (listed parts.next_denoter next_denoter_covered) one one levels.denoter))

  section_covered : Covers E r.section_rule node.section_node
  unfolding r.section_rule
  section_covered = made (λ (names, colon, denoter). record { names = names; colon = colon; denoter = denoter }) (λ _. refl)
      (three names_covered one levels.denoter)

  fixed_covered : Covers E r.fixed_rule node.fields_node
  unfolding r.fixed_rule r.variants_rule
  fixed_covered =
      made (λ (first, rest). fixed_fields (roll-Fixed (record { first = first; others = rest.0 })) rest.1)
      (λ (first, rest). fixed_fields_is _ rest.1 ∙ fixed_rolled first rest.0 (fields_end rest.1))
      (pair section_covered (stepped node.section_step
      (made (λ (semicolon, section). record { semicolon = semicolon; section = section }) (λ _. refl) (pair one section_covered)) (maybe levels.variant_part)))

  fields_covered : Covers E r.fields_rule node.fields_node
  unfolding r.fields_rule r.variants_rule
  fields_covered = choose fixed_covered (made variant_fields variant_fields_is (maybe levels.variant_part))

  -- ---- variant parts

  tag_covered : Covers E r.tag_rule node.tag_node
  unfolding r.tag_rule
  tag_covered = made (λ (n, rest). tag n rest) (λ (n, rest). tag_is n rest) (pair one (maybe (pair one one)))

  arm_covered : Covers E r.arm_rule node.arm_node
  unfolding r.arm_rule
  arm_covered =
      made (λ (constants, colon, open', fields, close). record { constants = constants; colon = colon; «open» = open'; fields = fields; close = close })
      (λ _. refl) (five constants_covered one one fields_covered one)

  pub variant_part_covered : Covers E r.variant_part_rule ended_variants_node
  unfolding r.variant_part_rule
  variant_part_covered =
      made (λ (word, tag, of, first, rest). (roll-Variants (record { word = word; tag = tag; of = of; first = first; others = rest.0 }), rest.1))
      (λ (word, tag, of, first, rest). variants_rolled word tag of first rest.0 rest.1)
      (five one tag_covered one arm_covered (semicolons node.arm_step
      (made (λ (semicolon, arm). record { semicolon = semicolon; arm = arm }) (λ _. refl) (pair one arm_covered))))

  -- ---- denoters

  structure_covered : Covers E r.structure_rule node.structure_node
  unfolding r.structure_rule r.record_rule r.set_rule
  structure_covered =
      choose (made Array (λ _. refl) array_covered)
      (choose (made (λ (word, fields, end). Record' word fields end) (λ _. refl) (three one fields_covered one))
      (made (λ (word, of, base). Set' word of base) (λ _. refl) (three one one levels.denoter)))

  packed_covered : Covers E (r.optional (k.WPacked ∷ []) (word k.WPacked)) (token_node k.WPacked)
  packed_covered = choose (made Some (λ _. refl) one) (absent None refl)

  pub denoter_covered : Covers E r.denoter_rule node.denoter_node
  unfolding r.denoter_rule r.named_denoter_rule r.subrange_rule r.structured_rule
  denoter_covered =
      choose (made (λ (n, rest). named_denoter n rest) (λ (n, rest). named_denoter_is n rest) (pair one (maybe range_covered)))
      (choose (made Enumeration (λ _. refl) enumeration_covered)
      (choose (made (λ (first, rest). Subrange first rest.0 rest.1) (λ _. refl) (pair limit_covered range_covered))
      (choose (made (λ (caret, name). Pointer caret name) (λ _. refl) (pair one one))
      (made (λ (packed, structure). Structure' packed (boxed tt) structure) (λ _. refl) (pair packed_covered structure_covered)))))
